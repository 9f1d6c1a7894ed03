-- A node with another field in front, from the fronts of its children and the rows of nodes between them.
use Rattle.std.proofs.Common.{◌≡◌, ◌≢◌, ◌∷◌, ℕ, List, [], ◌+◌, ◌≤◌, ◌<◌, ◌^◌, ◌∙◌, length, get_or, map, ap, arith, refl, sym, subst, inl, inr}
use Rattle.std.specs.List.{All, AllZip}
use Rattle.field_boxes.specs.Headline.Fields.{width}
use Rattle.field_boxes.specs.Fields.{greatest_of}
use Rattle.node_store.specs.declared.edge.Edge.{Edge}
use Rattle.node_store.specs.Levels.{HasField, IsLevel, next as next_level, top_of}
use Rattle.node_store.specs.Edges.{AreFull, child_of}
use Rattle.node_store.specs.Diagram.{Node, level_of, edges_of, answer}
use Rattle.node_store.specs.Store.{IsStore, IsInner, LeadsOn, Grows, LeadTo}
use Rattle.node_store.proofs.Canonical.{in_use, leads_on}
use Rattle.node_store.proofs.Growth as growth
use Rattle.field_boxes.specs.Orders.{AreDistinct, Has}
use Rattle.table_compose.proofs.Later.{inner_of}
use Rattle.field_order.specs.Fronts.{Fits, without, IsFront, IsFrontEdge, IsSample}
use Rattle.field_order.proofs.Values.{put, put_fits, put_map, put_other, put_same}
use Rattle.field_order.proofs.Without as left
use Rattle.field_order.proofs.Zipped as zipped

-- a node that reads the field first is its own front
pub own : (nodes : List Node) (level : List ℕ) (id f : ℕ) → IsLevel level → AreDistinct level → Has f level → level_of nodes id ≡ level → (rest : List ℕ) → level ≡ f ∷ rest → IsFront nodes id f id
own nodes level id f is d has at rest same =
    let mine : level_of nodes id ≡ f ∷ rest = at ∙ same in
    let gone : without f (level_of nodes id) ≡ rest = ap (without f) mine ∙ left.behind f f rest refl (subst AreDistinct same d).0 in
    let front : f ∷ without f (level_of nodes id) ≡ level_of nodes id = ap (λ l. f ∷ l) gone ∙ sym mine in record {
      within = subst IsLevel (sym at) is;
      field = subst HasField (ap (λ l. f ∷ without f l) (sym at)) (left.fronted f level has d is);
      level = sym front;
      answers = λ h fits. ap (λ l. answer nodes id (map h l)) front;
    }

-- where the first field is another one
pub record AreCrossed (f g : ℕ) (rest : List ℕ) : Type 0 where
  pub other : g ≢ f
  pub lower : without f (g ∷ rest) ≡ g ∷ without f rest
  pub upper : HasField (f ∷ g ∷ without f rest)
  pub side : HasField (f ∷ without f rest)

pub crossing : (f g : ℕ) (rest : List ℕ) → Has f rest → AreDistinct (g ∷ rest) → IsLevel (g ∷ rest) → AreCrossed f g rest
crossing f g rest has d is =
    let other = left.other f g rest has d.0 in
    let lower = left.there f g rest other in record {
      other = other;
      lower = lower;
      upper = subst (λ l. HasField (f ∷ l)) lower (left.fronted f (g ∷ rest) (inr has) d is);
      side = left.fronted f rest has d.1 is.1;
    }

-- where the edge at a place leads, also once the store has grown
pub edge_level : (n0 n : List Node) (id i : ℕ) (level : List ℕ) (es : List Edge) (d : Edge) → IsStore n0 → HasField (level_of n0 id) → next_level (level_of n0 id) ≡ level → IsLevel level →
    es ≡ edges_of n0 id → Grows n0 n → i < length es → level_of n (get_or es i d).to.0 ≡ level
edge_level n0 n id i level es d s has next is same g less =
    let to = (get_or es i d).to.0 in
    let all = subst (λ xs. All (LeadsOn n0 id (level_of n0 id)) xs) (sym same) (inner_of n0 id s has).children in
    let at : level_of n0 to ≡ level = (all i d less).1 ∙ next in
    growth.level_kept n0 n to g (in_use n0 to level is at) ∙ at

module _ (n0 n1 : List Node) (id f g : ℕ) (rest : List ℕ) (s : IsStore n0) (at : level_of n0 id ≡ g ∷ rest) (is : IsLevel (g ∷ rest)) (d : AreDistinct (g ∷ rest)) (has : Has f rest)
    (g01 : Grows n0 n1) (es : List Edge) (zip : AllZip (IsFrontEdge n1 f) (edges_of n0 id) es) where
  cross : AreCrossed f g rest
  cross = crossing f g rest has d is

  inner : IsInner n0 id (g ∷ rest) (edges_of n0 id)
  inner = subst (λ l. IsInner n0 id l (edges_of n0 id)) at (inner_of n0 id s (subst HasField (sym at) is))

  abbrev Fronts : ℕ → ℕ → Type 0
  Fronts a b = IsFront n1 a f b

  pub front_full : AreFull (greatest_of g) es
  front_full = zipped.full Fronts (greatest_of g) (edges_of n0 id) es inner.full zip

  child_level : (a : ℕ) → level_of n0 a ≡ rest → level_of n1 a ≡ rest
  child_level a e = growth.level_kept n0 n1 a g01 (in_use n0 a rest is.1 e) ∙ e

  children_at : All (λ (e : Edge). level_of n0 e.to.0 ≡ rest) (edges_of n0 id)
  children_at k e less = (inner.children k e less).1

  pub front_nodes : LeadTo n1 (f ∷ without f rest) es
  front_nodes =
      zipped.each Fronts (λ a. level_of n0 a ≡ rest) (λ b. level_of n1 b ≡ f ∷ without f rest) (edges_of n0 id) es
      (λ a b e front. front.level ∙ ap (λ l. f ∷ without f l) (child_level a e)) children_at zip

  used : id < length n0
  used = in_use n0 id (g ∷ rest) is at

  below : (f v : ℕ) → v < 2 ^ width f → v ≤ greatest_of f
  below f v h = omega (arith, h)

  -- from the front of a child, the field's value leads on as from the node
  reached : (n : List Node) → Grows n0 n → (h : ℕ → ℕ) → Fits h → answer n1 (child_of (edges_of n1 (child_of es (h g))) (h f)) (map h (without f rest)) ≡ answer n id (map h (g ∷ rest))
  reached n grown h fits =
      let u = h g in
      let small = below g u (fits g) in
      let child = child_of (edges_of n0 id) u in
      let on = leads_on n0 id u s (subst HasField (sym at) is) (subst (λ l. u ≤ top_of l) (sym at) small) in
      let child_at : level_of n0 child ≡ rest = on.1 ∙ ap next_level at in
      let front : IsFront n1 child f (child_of es u) = zipped.comes Fronts (greatest_of g) u (edges_of n0 id) es inner.full zip small in
      let later = child_level child child_at in
      ap (λ l. answer n1 (child_of es u) (map h (f ∷ without f l))) (sym later)
      ∙ front.answers h fits
      ∙ ap (λ l. answer n1 child (map h l)) later
      ∙ g01.answers child (map h rest) (omega (arith, on.0, used))
      ∙ sym (grown.answers id (map h (g ∷ rest)) used)

  -- a sample of the rows answers as the node where the field has the value
  pub sampled : (n2 n : List Node) → Grows n0 n → Grows n2 n → (e : Edge) → IsSample n1 n2 (g ∷ without f rest) f es e → e.hi < 2 ^ width f → (h : ℕ → ℕ) → Fits h →
      answer n e.to.0 (map h (g ∷ without f rest)) ≡ answer n id (map (put f e.hi h) (g ∷ rest))
  sampled n2 n g0 g2 e sample small h fits =
      let v = e.hi in
      let k = put f v h in
      let others = without f rest in
      let stands = in_use n2 e.to.0 (g ∷ others) cross.upper.1 sample.level_is in
      g2.answers e.to.0 (map h (g ∷ others)) stands
      ∙ sample.answers (h g) (map h others) (below g (h g) (fits g))
      ∙ ap (λ u. answer n1 (child_of (edges_of n1 (child_of es u)) v) (map h others)) (sym (put_other f v g h cross.other))
      ∙ ap (λ x. answer n1 (child_of (edges_of n1 (child_of es (k g))) x) (map h others)) (sym (put_same f v h))
      ∙ ap (answer n1 (child_of (edges_of n1 (child_of es (k g))) (k f))) (sym (put_map f v h others (left.missing f rest)))
      ∙ reached n g0 k (put_fits f v h small fits)

  -- the node that has the rows as its edges
  module _ (n2 n3 : List Node) (rows : List Edge) (made : ℕ) (g12 : Grows n1 n2) (g23 : Grows n2 n3)
      (answers : (v u : ℕ) (values : List ℕ) → v ≤ greatest_of f → u ≤ greatest_of g → answer n2 (child_of rows v) (u ∷ values) ≡ answer n1 (child_of (edges_of n1 (child_of es u)) v) values)
      (made_answers : (v : ℕ) (values : List ℕ) → v ≤ greatest_of f → answer n3 made (v ∷ values) ≡ answer n2 (child_of rows v) values)
      (made_level : level_of n3 made ≡ f ∷ g ∷ without f rest) where
    g03 : Grows n0 n3
    g03 = growth.twice n0 n1 n3 g01 (growth.twice n1 n2 n3 g12 g23)

    now : level_of n3 id ≡ g ∷ rest
    now = growth.level_kept n0 n3 id g03 used ∙ at

    same : (h : ℕ → ℕ) → Fits h → answer n3 made (map h (f ∷ g ∷ without f rest)) ≡ answer n3 id (map h (g ∷ rest))
    same h fits =
        let low = below f (h f) (fits f) in
        made_answers (h f) (map h (g ∷ without f rest)) low ∙ answers (h f) (h g) (map h (without f rest)) low (below g (h g) (fits g)) ∙ reached n3 g03 h fits

    pub crossed : IsFront n3 id f made
    crossed =
        let front : f ∷ without f (level_of n3 id) ≡ f ∷ g ∷ without f rest = ap (λ l. f ∷ without f l) now ∙ ap (λ l. f ∷ l) cross.lower in record {
          within = subst IsLevel (sym now) is;
          field = subst HasField (sym front) cross.upper;
          level = made_level ∙ sym front;
          answers = λ h fits. ap (λ l. answer n3 made (map h l)) front ∙ same h fits ∙ ap (λ l. answer n3 id (map h l)) (sym now);
        }

-- what the rows ask, and what becomes of them, for any level that isn't empty
pub record AreReady (n1 : List Node) (lower : List ℕ) (f : ℕ) (es : List Edge) : Type 0 where
  pub field : HasField lower
  pub side : HasField (f ∷ next_level lower)
  pub upper : HasField (f ∷ lower)
  pub full : AreFull (top_of lower) es
  pub nodes : LeadTo n1 (f ∷ next_level lower) es

pub ready : (n0 n1 : List Node) (level lower : List ℕ) (id f : ℕ) (es seen : List Edge) → IsStore n0 → level_of n0 id ≡ level → IsLevel level → AreDistinct level → HasField level → Has f (next_level level) →
    Grows n0 n1 → AllZip (IsFrontEdge n1 f) (edges_of n0 id) es → lower ≡ without f level → seen ≡ es → AreReady n1 lower f seen
ready n0 n1 [] lower id f es seen s at is d some has g zip lower_is seen_is = absurd some
ready n0 n1 (g ∷ rest) lower id f es seen s at is d some has g01 zip lower_is seen_is =
    let cross = crossing f g rest has d is in
    let made : AreReady n1 (g ∷ without f rest) f es = record {
      field = cross.upper.1;
      side = cross.side;
      upper = cross.upper;
      full = front_full n0 n1 id f g rest s at is d has g01 es zip;
      nodes = front_nodes n0 n1 id f g rest s at is d has g01 es zip;
    } in
    subst (λ l. AreReady n1 l f seen) (sym (lower_is ∙ cross.lower)) (subst (AreReady n1 (g ∷ without f rest) f) (sym seen_is) made)

pub front_made : (n0 n1 n2 n3 : List Node) (level : List ℕ) (id f made : ℕ) (es rows : List Edge) → IsStore n0 → level_of n0 id ≡ level → IsLevel level → AreDistinct level → HasField level → Has f (next_level level) →
    Grows n0 n1 → AllZip (IsFrontEdge n1 f) (edges_of n0 id) es → Grows n1 n2 → Grows n2 n3 →
    ((v u : ℕ) (values : List ℕ) → v ≤ greatest_of f → u ≤ top_of (without f level) → answer n2 (child_of rows v) (u ∷ values) ≡ answer n1 (child_of (edges_of n1 (child_of es u)) v) values) →
    ((v : ℕ) (values : List ℕ) → v ≤ greatest_of f → answer n3 made (v ∷ values) ≡ answer n2 (child_of rows v) values) →
    level_of n3 made ≡ f ∷ without f level → IsFront n3 id f made
front_made n0 n1 n2 n3 [] id f made es rows s at is d some has g01 zip g12 g23 answers made_answers made_level = absurd some
front_made n0 n1 n2 n3 (g ∷ rest) id f made es rows s at is d some has g01 zip g12 g23 answers made_answers made_level =
    let cross = crossing f g rest has d is in
    crossed n0 n1 id f g rest s at is d has g01 es zip n2 n3 rows made g12 g23
    (subst (λ l. (v u : ℕ) (values : List ℕ) → v ≤ greatest_of f → u ≤ top_of l → answer n2 (child_of rows v) (u ∷ values) ≡ answer n1 (child_of (edges_of n1 (child_of es u)) v) values) cross.lower answers)
    made_answers (made_level ∙ ap (λ l. f ∷ l) cross.lower)

pub next_distinct : (level : List ℕ) → AreDistinct level → AreDistinct (next_level level)
next_distinct [] d = tt
next_distinct (f ∷ level) d = d.1

pub some_field : (level : List ℕ) → HasField level → length (next_level level) + 1 ≡ length level
some_field [] h = absurd h
some_field (f ∷ level) h = omega arith

pub upper_is : (f : ℕ) (lower slice items upper : List ℕ) → slice ≡ lower → items ≡ f ∷ slice → upper ≡ items → upper ≡ f ∷ lower
upper_is f lower slice items upper a b c = c ∙ b ∙ ap (λ l. f ∷ l) a

pub first_is : (f : ℕ) (level : List ℕ) (d : ℕ) → Has f level → get_or level 0 d ≡ f → level ≡ f ∷ next_level level
first_is f [] d h e = absurd h
first_is f (g ∷ level) d h e = ap (λ k. k ∷ level) e

pub in_rest : (f : ℕ) (level : List ℕ) (d : ℕ) → Has f level → get_or level 0 d ≢ f → Has f (next_level level)
in_rest f [] d h other = absurd h
in_rest f (g ∷ level) d (inl e) other = absurd (other e)
in_rest f (g ∷ level) d (inr h) other = h

pub has_field : (f : ℕ) (level : List ℕ) → Has f level → IsLevel level → HasField level
has_field f [] h is = absurd h
has_field f (g ∷ level) h is = is

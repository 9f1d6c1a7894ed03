-- The boxes of a node that answers 1 and 2: they are grouped, hold the values at which it answers 1, and no other node has them.
use Rattle.std.proofs.Common.{◌≡◌, ◌≢◌, ◌∷◌, ◌++◌, ℕ, List, [], Bool, true, false, ◌≤◌, ◌<◌, arith, ap, refl, sym, ◌∙◌, subst, inl, inr, true≢false, ◌⊎◌, ◌↔◌, suc, cond, map, nat_eq, Option, Some, None, slice_get, flat_map}
use Rattle.std.proofs.lemmas.Bool.Decides.{Decides-eqb}
use Rattle.field_boxes.specs.Headline.Classifier.{Interval}
use Rattle.field_boxes.specs.Fields.{greatest_of}
use Rattle.node_store.specs.declared.edge.Edge.{Edge}
use Rattle.node_store.specs.Edges.{child_of}
use Rattle.node_store.specs.Levels.{HasField, IsLevel, next as next_level, top_of}
use Rattle.node_store.specs.Diagram.{Node, node_level, node_edges, level_of, edges_of, answer}
use Rattle.node_store.specs.Diagram.Node.{Leaf, Inner}
use Rattle.node_store.specs.Store.{IsStore, IsInner}
use Rattle.node_store.proofs.Canonical.{one, leads_on}
use Rattle.node_store.proofs.Edges as edges
use Rattle.box_query.specs.Boxes.{Group, boxes_of, put_first, AreRising, Differ, AreGrouped}
use Rattle.box_query.specs.NodeBoxes.{branches, branch_boxes, node_boxes, AnswersTwo}
use Rattle.field_boxes.proofs.Held.{LiesInOne}
use Rattle.box_query.proofs.Runs.{rest_at, at-first, at-past, at-before}
use Rattle.box_query.proofs.Parts.{held-at_value, held-from_value}
use Rattle.box_query.proofs.Alone.{IsRight}
use Rattle.node_store.proofs.Values.{in_width}
use Rattle.node_store.proofs.Edges.{same_id}

pub leaf_boxes : (nodes : List Node) (id : ℕ) → node_boxes nodes [] id ≡ cond (nat_eq (answer nodes id []) 1) ([] ∷ []) []
unfolding node_boxes
leaf_boxes nodes id = refl

pub inner_boxes : (nodes : List Node) (f : ℕ) (level : List ℕ) (id : ℕ) →
    node_boxes nodes (f ∷ level) id ≡ flat_map (branch_boxes (node_boxes nodes level)) (branches 0 (edges_of nodes id))
unfolding node_boxes
inner_boxes nodes f level id = refl

-- Groups of edges: one for each that leads to some box.

abbrev interval : ℕ → ℕ → Interval
interval lo hi = record { lo = lo; hi = hi }

abbrev add_group : Interval → List (List Interval) → List Group → List Group
add_group i [] groups = groups
add_group i (b ∷ rest) groups = record { first = i; rest = b ∷ rest } ∷ groups

abbrev groups_of : (ℕ → List (List Interval)) → ℕ → List Edge → List Group
groups_of boxes lo [] = []
groups_of boxes lo (e ∷ es) = add_group (interval lo e.hi) (boxes e.to.0) (groups_of boxes (suc e.hi) es)

added-boxes : (i : Interval) (rest : List (List Interval)) (groups : List Group) → boxes_of (add_group i rest groups) ≡ map (put_first i) rest ++ boxes_of groups
added-boxes i [] groups = refl
added-boxes i (b ∷ rest) groups = refl

groups-boxes : (boxes : ℕ → List (List Interval)) (lo : ℕ) (es : List Edge) → boxes_of (groups_of boxes lo es) ≡ flat_map (branch_boxes boxes) (branches lo es)
groups-boxes boxes lo [] = refl
groups-boxes boxes lo (e ∷ es) =
    added-boxes (interval lo e.hi) (boxes e.to.0) (groups_of boxes (suc e.hi) es)
    ∙ ap (λ more. map (put_first (interval lo e.hi)) (boxes e.to.0) ++ more) (groups-boxes boxes (suc e.hi) es)

lower : (P : List (List Interval) → Type 0) (lo less hi : ℕ) (groups : List Group) → less ≤ lo → AreRising P lo hi groups → AreRising P less hi groups
lower P lo less hi [] low h = tt
lower P lo less hi (x ∷ groups) low h = (h.0, omega (arith, low, h.1), h.2, h.3, h.4, h.5)

added-rising : (P : List (List Interval) → Type 0) (lo hi : ℕ) (i : Interval) (rest : List (List Interval)) (groups : List Group) → lo ≤ i.lo → i.lo ≤ i.hi → i.hi ≤ hi → P rest →
    AreRising P (suc i.hi) hi groups → AreRising P lo hi (add_group i rest groups)
added-rising P lo hi i [] groups low order high p h = lower P (suc i.hi) lo hi groups (omega (arith, low, order)) h
added-rising P lo hi i (b ∷ rest) groups low order high p h = (omega arith, low, order, high, p, h)

-- what holds of the children to which the edges lead from lo on
abbrev pub Leads : (ℕ → Type 0) → ℕ → ℕ → List Edge → Type 0
Leads Q lo g es = (v : ℕ) → lo ≤ v → v ≤ g → Q (child_of es v)

pub leads-first : (Q : ℕ → Type 0) (lo g : ℕ) (e : Edge) (es : List Edge) → edges.Rise g lo (e ∷ es) → Leads Q lo g (e ∷ es) → Q e.to.0
leads-first Q lo g e es r each = let b = edges.bounded g lo e es r in subst Q (edges.within e es lo b.0) (each lo (omega arith) (omega (arith, b.0, b.1)))

pub leads-rest : (Q : ℕ → Type 0) (lo g : ℕ) (e : Edge) (es : List Edge) → lo ≤ e.hi → Leads Q lo g (e ∷ es) → Leads Q (suc e.hi) g es
leads-rest Q lo g e es low each v more high = subst Q (edges.past e es v (omega (arith, more))) (each v (omega (arith, low, more)) high)

rising : (P : List (List Interval) → Type 0) (boxes : ℕ → List (List Interval)) (g lo : ℕ) (es : List Edge) → edges.Rise g lo es → Leads (λ n. P (boxes n)) lo g es →
    AreRising P lo g (groups_of boxes lo es)
rising P boxes g lo [] r each = absurd r
rising P boxes g lo (e ∷ []) r each =
    added-rising P lo g (interval lo e.hi) (boxes e.to.0) [] (omega arith) r.0 (omega (arith, r.1)) (leads-first (λ n. P (boxes n)) lo g e [] r each) tt
rising P boxes g lo (e ∷ d ∷ es) r each =
    let b = edges.bounded g lo e (d ∷ es) r in
    added-rising P lo g (interval lo e.hi) (boxes e.to.0) (groups_of boxes (suc e.hi) (d ∷ es)) (omega arith) r.0 b.1 (leads-first (λ n. P (boxes n)) lo g e (d ∷ es) r each)
    (rising P boxes g (suc e.hi) (d ∷ es) r.1 (leads-rest (λ n. P (boxes n)) lo g e (d ∷ es) r.0 each))

-- the first group, if it begins right behind a value, has other boxes
abbrev NextDiffers : ℕ → List (List Interval) → List Group → Type 0
NextDiffers hi rest [] = Unit {0}
NextDiffers hi rest (y ∷ groups) = y.first.lo ≡ suc hi → rest ≢ y.rest

added-differ : (i : Interval) (rest : List (List Interval)) (groups : List Group) → NextDiffers i.hi rest groups → Differ groups → Differ (add_group i rest groups)
added-differ i [] groups n d = d
added-differ i (b ∷ rest) [] n d = tt
added-differ i (b ∷ rest) (y ∷ groups) n d = (n, d)

next-differs : (P : List (List Interval) → Type 0) (hi g : ℕ) (rest : List (List Interval)) (j : Interval) (more : List (List Interval)) (groups : List Group) → j.lo ≡ suc hi → j.lo ≤ j.hi →
    AreRising P (suc j.hi) g groups → rest ≢ more → NextDiffers hi rest (add_group j more groups)
next-differs P hi g rest j [] [] starts order h n = tt
next-differs P hi g rest j [] (y ∷ groups) starts order h n = λ near. absurd (omega (arith, starts, order, h.1, near))
next-differs P hi g rest j (b ∷ more) groups starts order h n = λ near e. n e

differ : (P : List (List Interval) → Type 0) (Q : ℕ → Type 0) (boxes : ℕ → List (List Interval)) (g lo : ℕ) (es : List Edge) → edges.AreEdges g lo es → Leads Q lo g es →
    ((n : ℕ) → Q n → P (boxes n)) → ((a b : ℕ) → Q a → Q b → boxes a ≡ boxes b → a ≡ b) → Differ (groups_of boxes lo es)
differ P Q boxes g lo [] r each has other = absurd r
differ P Q boxes g lo (e ∷ []) r each has other = added-differ (interval lo e.hi) (boxes e.to.0) [] tt tt
differ P Q boxes g lo (e ∷ d ∷ []) r each has other =
    let all = edges.rise_in g lo (e ∷ d ∷ []) r in
    let later = leads-rest Q lo g e (d ∷ []) r.0 each in
    added-differ (interval lo e.hi) (boxes e.to.0) (groups_of boxes (suc e.hi) (d ∷ []))
    (next-differs P e.hi g (boxes e.to.0) (interval (suc e.hi) d.hi) (boxes d.to.0) [] refl r.2.0 tt
    (λ same. r.1 (same_id e.to d.to (other e.to.0 d.to.0 (leads-first Q lo g e (d ∷ []) all each) (leads-first Q (suc e.hi) g d [] all.1 later) same))))
    (differ P Q boxes g (suc e.hi) (d ∷ []) r.2 later has other)
differ P Q boxes g lo (e ∷ d ∷ c ∷ es) r each has other =
    let all = edges.rise_in g lo (e ∷ d ∷ c ∷ es) r in
    let later = leads-rest Q lo g e (d ∷ c ∷ es) r.0 each in
    added-differ (interval lo e.hi) (boxes e.to.0) (groups_of boxes (suc e.hi) (d ∷ c ∷ es))
    (next-differs P e.hi g (boxes e.to.0) (interval (suc e.hi) d.hi) (boxes d.to.0) (groups_of boxes (suc d.hi) (c ∷ es)) refl r.2.0
    (rising P boxes g (suc d.hi) (c ∷ es) all.1.1 (λ v low high. has (child_of (c ∷ es) v) (leads-rest Q (suc e.hi) g d (c ∷ es) r.2.0 later v low high)))
    (λ same. r.1 (same_id e.to d.to (other e.to.0 d.to.0 (leads-first Q lo g e (d ∷ c ∷ es) all each) (leads-first Q (suc e.hi) g d (c ∷ es) all.1 later) same))))
    (differ P Q boxes g (suc e.hi) (d ∷ c ∷ es) r.2 later has other)

-- the boxes at a value are those of the child to which it leads

added-first : (P : List (List Interval) → Type 0) (i : Interval) (rest : List (List Interval)) (groups : List Group) (v hi : ℕ) → i.lo ≤ v → v ≤ i.hi → AreRising P (suc i.hi) hi groups →
    rest_at v (add_group i rest groups) ≡ rest
added-first P i [] groups v hi low high h = at-before P (suc i.hi) hi v groups h (omega (arith, high))
added-first P i (b ∷ rest) groups v hi low high h = at-first v (record { first = i; rest = b ∷ rest }) groups low high

added-past : (i : Interval) (rest : List (List Interval)) (groups : List Group) (v : ℕ) → i.hi < v → rest_at v (add_group i rest groups) ≡ rest_at v groups
added-past i [] groups v past = refl
added-past i (b ∷ rest) groups v past = at-past v (record { first = i; rest = b ∷ rest }) groups past

side : (v hi : ℕ) → (v ≤ hi) ⊎ (hi < v)
side v hi = grind arith

rest-child : (P : List (List Interval) → Type 0) (boxes : ℕ → List (List Interval)) (g lo : ℕ) (es : List Edge) (v : ℕ) → edges.Rise g lo es → Leads (λ n. P (boxes n)) lo g es → lo ≤ v → v ≤ g →
    rest_at v (groups_of boxes lo es) ≡ boxes (child_of es v)
rest-child P boxes g lo [] v r each low high = absurd r
rest-child P boxes g lo (e ∷ []) v r each low high =
    let at : v ≤ e.hi = omega (arith, r.1, high) in
    added-first P (interval lo e.hi) (boxes e.to.0) [] v g low at tt ∙ sym (ap boxes (edges.within e [] v at))
rest-child P boxes g lo (e ∷ d ∷ es) v r each low high =
    let later = leads-rest (λ n. P (boxes n)) lo g e (d ∷ es) r.0 each in elim (side v e.hi) [
      | inl at ↦
          added-first P (interval lo e.hi) (boxes e.to.0) (groups_of boxes (suc e.hi) (d ∷ es)) v g low at (rising P boxes g (suc e.hi) (d ∷ es) r.1 later)
          ∙ sym (ap boxes (edges.within e (d ∷ es) v at))
      | inr past ↦
          added-past (interval lo e.hi) (boxes e.to.0) (groups_of boxes (suc e.hi) (d ∷ es)) v past
          ∙ rest-child P boxes g (suc e.hi) (d ∷ es) v r.1 later (omega (arith, past)) high ∙ sym (ap boxes (edges.past e (d ∷ es) v past))
    ]

-- A node of a store.

inner-by : (nodes : List Node) (id : ℕ) → IsStore nodes → (m : Option Node) → slice_get nodes id ≡ m → HasField (node_level m) → IsInner nodes id (node_level m) (node_edges m)
inner-by nodes id s None p field = absurd (omega (arith, field.0.0))
inner-by nodes id s (Some (Leaf d)) p field = absurd field
inner-by nodes id s (Some (Inner f es)) p field = s.fits id (Inner f es) p

pub node-edges : (nodes : List Node) (level : List ℕ) (id : ℕ) → IsStore nodes → HasField level → level_of nodes id ≡ level → edges.AreEdges (top_of level) 0 (edges_of nodes id)
node-edges nodes level id s field at =
    let inner = inner-by nodes id s (slice_get nodes id) refl (subst HasField (sym at) field) in
    subst (λ l. edges.AreEdges (top_of l) 0 (edges_of nodes id)) at (edges.edges_of (top_of (level_of nodes id)) (edges_of nodes id) inner.full inner.apart)

-- it stands at the level and answers 1 and 2
pub record IsFit (nodes : List Node) (level : List ℕ) (id : ℕ) : Type 0 where
  pub at : level_of nodes id ≡ level
  pub two : AnswersTwo nodes level id

pub child-fit : (nodes : List Node) (f : ℕ) (level : List ℕ) (id v : ℕ) → IsStore nodes → HasField (f ∷ level) → IsFit nodes (f ∷ level) id → v ≤ greatest_of f →
    IsFit nodes level (child_of (edges_of nodes id) v)
child-fit nodes f level id v s field fit high = record {
  at = (leads_on nodes id v s (subst HasField (sym fit.at) field) (subst (λ l. v ≤ top_of l) (sym fit.at) high)).1 ∙ ap next_level fit.at;
  two = λ values ok. fit.two (v ∷ values) (in_width f v high, ok);
}

-- the boxes are grouped, and hold the values at which the node answers 1
pub record HasBoxes (nodes : List Node) (level : List ℕ) (id : ℕ) : Type 0 where
  pub grouped : AreGrouped level (node_boxes nodes level id)
  pub right : IsRight (λ values. answer nodes id values ≡ 1) level (node_boxes nodes level id)

leaf-grouped : (t : Bool) → AreGrouped [] (cond t ([] ∷ []) [])
leaf-grouped true = inr refl
leaf-grouped false = inl refl

leaf-held : (n : ℕ) (t : Bool) → nat_eq n 1 ≡ t → LiesInOne (cond t ([] ∷ []) []) [] ↔ (n ≡ 1)
leaf-held n true e = ((λ h. (Decides-eqb n 1).0 e), (λ h. inl tt))
leaf-held n false e = ((λ h. absurd h), (λ h. absurd (true≢false (sym ((Decides-eqb n 1).1 h) ∙ e))))

leaf-right : (nodes : List Node) (id : ℕ) (boxes : List (List Interval)) → boxes ≡ cond (nat_eq (answer nodes id []) 1) ([] ∷ []) [] →
    IsRight (λ values. answer nodes id values ≡ 1) [] boxes
leaf-right nodes id boxes e [] ok = subst (λ bs. LiesInOne bs [] ↔ (answer nodes id [] ≡ 1)) (sym e) (leaf-held (answer nodes id []) (nat_eq (answer nodes id []) 1) refl)
leaf-right nodes id boxes e (v ∷ values) ok = absurd ok

one-of-two : (a b : ℕ) → (a ≡ 1) ⊎ (a ≡ 2) → (b ≡ 1) ⊎ (b ≡ 2) → (a ≡ 1 → b ≡ 1) → (b ≡ 1 → a ≡ 1) → a ≡ b
one-of-two a b (inl p) q f g = p ∙ sym (f p)
one-of-two a b (inr p) (inl q) f g = g q ∙ sym q
one-of-two a b (inr p) (inr q) f g = p ∙ sym q

-- nodes with the same boxes are one
same-boxes : (nodes : List Node) (level : List ℕ) (a b : ℕ) → IsStore nodes → IsLevel level → IsFit nodes level a → IsFit nodes level b → HasBoxes nodes level a → HasBoxes nodes level b →
    node_boxes nodes level a ≡ node_boxes nodes level b → a ≡ b
same-boxes nodes level a b s is p q h k e =
    one nodes level a b s is p.at q.at (λ values ok.
    let left = h.right values ok in
    let right = subst (λ bs. LiesInOne bs values ↔ (answer nodes b values ≡ 1)) (sym e) (k.right values ok) in
    one-of-two (answer nodes a values) (answer nodes b values) (p.two values ok) (q.two values ok) (λ x. right.0 (left.1 x)) (λ x. left.0 (right.1 x)))

inner-right : (nodes : List Node) (f : ℕ) (level : List ℕ) (id : ℕ) (boxes : List (List Interval)) (groups : List Group) → boxes ≡ boxes_of groups →
    AreRising (AreGrouped level) 0 (greatest_of f) groups → ((v : ℕ) → v ≤ greatest_of f → rest_at v groups ≡ node_boxes nodes level (child_of (edges_of nodes id) v)) →
    ((v : ℕ) → v ≤ greatest_of f → HasBoxes nodes level (child_of (edges_of nodes id) v)) → IsRight (λ values. answer nodes id values ≡ 1) (f ∷ level) boxes
inner-right nodes f level id boxes groups e rise rest below [] ok = absurd ok
inner-right nodes f level id boxes groups e rise rest below (v ∷ values) ok =
    let high : v ≤ greatest_of f = omega (arith, ok.0) in
    let child = (below v high).right values ok.1 in (
      (λ h. child.0 (subst (λ bs. LiesInOne bs values) (rest v high) (held-at_value groups (AreGrouped level) 0 (greatest_of f) v values rise (subst (λ bs. LiesInOne bs (v ∷ values)) e h)).2)),
      (λ h. subst (λ bs. LiesInOne bs (v ∷ values)) (sym e) (held-from_value groups v values (subst (λ bs. LiesInOne bs values) (sym (rest v high)) (child.1 h)))),
    )

pub has-boxes : (nodes : List Node) (level : List ℕ) → IsStore nodes → IsLevel level → (id : ℕ) → IsFit nodes level id → HasBoxes nodes level id
has-boxes nodes [] s is id fit = record {
  grouped = subst (AreGrouped []) (sym (leaf_boxes nodes id)) (leaf-grouped (nat_eq (answer nodes id []) 1));
  right = leaf-right nodes id (node_boxes nodes [] id) (leaf_boxes nodes id);
}
has-boxes nodes (f ∷ level) s is id fit =
    let all = node-edges nodes (f ∷ level) id s is fit.at in
    let es = edges_of nodes id in
    let rise = edges.rise_in (greatest_of f) 0 es all in
    let fits = λ (v : ℕ) (high : v ≤ greatest_of f). child-fit nodes f level id v s is fit high in
    let below = λ (v : ℕ) (high : v ≤ greatest_of f). has-boxes nodes level s is.1 (child_of es v) (fits v high) in
    let groups = groups_of (node_boxes nodes level) 0 es in
    let same : node_boxes nodes (f ∷ level) id ≡ boxes_of groups = inner_boxes nodes f level id ∙ sym (groups-boxes (node_boxes nodes level) 0 es) in
    let rises : AreRising (AreGrouped level) 0 (greatest_of f) groups = rising (AreGrouped level) (node_boxes nodes level) (greatest_of f) 0 es rise (λ v low high. (below v high).grouped) in
    record {
      grouped = (
        groups,
        same,
        rises,
        differ (AreGrouped level) (IsFit nodes level) (node_boxes nodes level) (greatest_of f) 0 es all (λ v low high. fits v high) (λ n h. (has-boxes nodes level s is.1 n h).grouped)
            (λ a b p q e. same-boxes nodes level a b s is.1 p q (has-boxes nodes level s is.1 a p) (has-boxes nodes level s is.1 b q) e),
      );
      right = inner-right nodes f level id (node_boxes nodes (f ∷ level) id) groups same rises
          (λ v high. rest-child (AreGrouped level) (node_boxes nodes level) (greatest_of f) 0 es v rise (λ w low upto. (below w upto).grouped) (omega arith) high) below;
    }

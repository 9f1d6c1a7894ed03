-- The groups of the rows of two nodes are those of the parts of their field.
use Rattle.std.proofs.Common.{◌≡◌, ◌≢◌, ◌∷◌, ℕ, zero, suc, ◌<◌, ◌≤◌, List, [], length, get_or, drop, refl, ap, sym, subst, ◌∙◌, arith, inl, inr, ◌⊎◌, map}
use Rattle.std.specs.List.{AllAdjacentBelow}
use Rattle.std.proofs.lemmas.List.Elements.{All-tail}
use Rattle.field_boxes.specs.Alike.{AreAlikeOver}
use Rattle.field_boxes.specs.Headline.Fields.{stated, AreValues}
use Rattle.field_boxes.specs.Fields.{greatest_of}
use Rattle.node_store.specs.declared.edge.Edge.{Edge}
use Rattle.node_store.specs.declared.edge.NodeId.{NodeId}
use Rattle.node_store.specs.declared.split.Part.{Part}
use Rattle.node_store.specs.Diagram.{Node, level_of, edges_of, answer}
use Rattle.node_store.specs.Edges.{child_of}
use Rattle.node_store.specs.Split.{IsSplit, to_left, to_right}
use Rattle.node_store.specs.Store.{LeadTo}
use Rattle.node_store.proofs.Adjacent as adjacent
use Rattle.node_store.proofs.Edges as edges
use Rattle.partition_check.specs.Boxes.{ends, AreUpTo}
use Rattle.partition_check.specs.Partition.{Group, rows_of, AreGroups}
use Rattle.partition_check.specs.Checking.{Statement}
use Rattle.box_partition.specs.Coarsest.{Claims, put_interval, Differ, IsCoarsest}
use Rattle.box_partition.specs.Firsts.{number_answered, node_claims}
use Rattle.box_partition.specs.Rows.{AreRowsOf, ArePaired, IsPaired, begins_at}
use Rattle.box_partition.proofs.Coarse.{AreRight, claimed-group, claimed-more, claimed-right, differ-rest, groups-bound, order, right-claimed, right-one, starting}
use Rattle.box_partition.proofs.Made.{claims-agree}

same_answer : (m n : ℕ) → number_answered m ≡ number_answered n → m ≡ n
same_answer zero zero h = refl
same_answer (suc m) (suc n) h = cc
same_answer m n h = absurd cc

-- in every store two nodes of a level that claim the same are one
abbrev pub OneNode : List Node → ℕ → Type 0
OneNode nodes level = (a b : ℕ) → level_of nodes a ≡ drop level stated → level_of nodes b ≡ drop level stated → AreAlikeOver (drop level stated) (answer nodes a) (answer nodes b) → a ≡ b

same_id : (a b : NodeId) → a.0 ≡ b.0 → a ≡ b
same_id a b p = ap (λ (n : ℕ). let r : NodeId = record { 0 = n } in r) p

abbrev PartsDiffer : Part → Part → Type 0
PartsDiffer p q = (p.left ≢ q.left) ⊎ (p.right ≢ q.right)

-- the parts lead to nodes of the level
abbrev AreOfLevel : List Node → ℕ → List Part → Type 0
AreOfLevel nodes level [] = Unit {0}
AreOfLevel nodes level (p ∷ ps) = (level_of nodes p.left.0 ≡ drop level stated) × (level_of nodes p.right.0 ≡ drop level stated) × AreOfLevel nodes level ps

-- the parts from a value on, which lead where the two nodes do
record ArePartsFrom (nodes : List Node) (level a b g lo : ℕ) (parts : List Part) : Type 0 where
  rise : edges.Rise g lo (map to_left parts)
  left : (v : ℕ) → lo ≤ v → v ≤ g → child_of (map to_left parts) v ≡ child_of (edges_of nodes a) v
  right : (v : ℕ) → lo ≤ v → v ≤ g → child_of (map to_right parts) v ≡ child_of (edges_of nodes b) v
  apart : AllAdjacentBelow PartsDiffer parts (length parts)
  levels : AreOfLevel nodes level parts

parts-rest : (nodes : List Node) (level a b g lo : ℕ) (p q : Part) (ps : List Part) → ArePartsFrom nodes level a b g lo (p ∷ q ∷ ps) → ArePartsFrom nodes level a b g (suc p.hi) (q ∷ ps)
parts-rest nodes level a b g lo p q ps s = record {
  rise = s.rise.1;
  left = λ v low high. sym (edges.past (to_left p) (map to_left (q ∷ ps)) v (omega (arith, low))) ∙ s.left v (omega (arith, low, s.rise.0)) high;
  right = λ v low high. sym (edges.past (to_right p) (map to_right (q ∷ ps)) v (omega (arith, low))) ∙ s.right v (omega (arith, low, s.rise.0)) high;
  apart = adjacent.tail PartsDiffer p (q ∷ ps) s.apart;
  levels = s.levels.2;
}

-- what rows claim of the headers that begin with a value, by the nodes to which it leads
claims-at : (nodes : List Node) (a b v l r : ℕ) (rows : List Statement) → child_of (edges_of nodes a) v ≡ l → child_of (edges_of nodes b) v ≡ r →
    AreRight (starting (node_claims nodes a b) v) rows → AreRight (node_claims nodes l r) rows
claims-at nodes a b v l r rows el er h =
    subst (λ n. AreRight (node_claims nodes l n) rows) er (subst (λ m. AreRight (node_claims nodes m (child_of (edges_of nodes b) v)) rows) el h)

-- a group that has a value of the first part claims what its nodes answer
group-claims : (nodes : List Node) (level a b g lo : ℕ) (x : Group Statement) (xs : List (Group Statement)) (p : Part) (ps : List Part) (v : ℕ) →
    ArePartsFrom nodes level a b g lo (p ∷ ps) → AreRight (node_claims nodes a b) (rows_of put_interval (x ∷ xs)) → lo ≤ v → v ≤ p.hi → v ≤ g → x.first.lo ≤ v → v ≤ x.first.hi →
    AreRight (node_claims nodes p.left.0 p.right.0) x.rest
group-claims nodes level a b g lo x xs p ps v s l low high within begins ends =
    claims-at nodes a b v p.left.0 p.right.0 x.rest (sym (s.left v low within) ∙ edges.within (to_left p) (map to_left ps) v high)
    (sym (s.right v low within) ∙ edges.within (to_right p) (map to_right ps) v high)
    (claimed-group (node_claims nodes a b) x.first v x.rest (rows_of put_interval xs) begins ends l)

bounded : (nodes : List Node) (level a b g lo : ℕ) (p : Part) (ps : List Part) → ArePartsFrom nodes level a b g lo (p ∷ ps) → (lo ≤ p.hi) × (p.hi ≤ g)
bounded nodes level a b g lo p ps s = edges.bounded g lo (to_left p) (map to_left ps) s.rise

-- no group ends before its part does: the next group would have the same rows
no-earlier_group : (nodes : List Node) (level a b g lo : ℕ) (gs : List ℕ) (x : Group Statement) (xs : List (Group Statement)) (p : Part) (ps : List Part) →
    ArePartsFrom nodes level a b g lo (p ∷ ps) → AreGroups (IsCoarsest gs) lo g (x ∷ xs) → Differ (x ∷ xs) → AreRight (node_claims nodes a b) (rows_of put_interval (x ∷ xs)) →
    x.first.hi < p.hi → ⊥
no-earlier_group nodes level a b g lo gs x [] p ps s h d l less = let e = bounded nodes level a b g lo p ps s in omega (arith, h.4, e.1, less)
no-earlier_group nodes level a b g lo gs x (z ∷ xs) p ps s h d l less =
    let e = bounded nodes level a b g lo p ps s in
    d.0 (right-one gs (node_claims nodes p.left.0 p.right.0) x.rest z.rest h.3 h.4.3
    (group-claims nodes level a b g lo x (z ∷ xs) p ps lo s l (omega arith) e.0 (omega (arith, e.0, e.1)) (omega (arith, h.1)) h.2)
    (group-claims nodes level a b g lo z xs p ps (suc x.first.hi) s (claimed-more (node_claims nodes a b) x.first x.rest (rows_of put_interval (z ∷ xs)) l)
    (omega (arith, h.2)) less (omega (arith, less, e.1)) (omega (arith, h.4.1)) h.4.2))

up_to : (fields values : List ℕ) → AreValues fields values → AreUpTo (map greatest_of fields) values
up_to [] [] h = tt
up_to (f ∷ fields) (v ∷ values) h = (omega (arith, h.0), up_to fields values h.1)
up_to fields values h = absurd h

drop-map : (n : ℕ) (fields : List ℕ) → map greatest_of (drop n fields) ≡ drop n (map greatest_of fields)
drop-map zero fields = refl
drop-map (suc n) [] = refl
drop-map (suc n) (f ∷ fields) = drop-map n fields

pub values-up_to : (level : ℕ) (values : List ℕ) → AreValues (drop level stated) values → AreUpTo (drop level ends) values
values-up_to level values h = subst (λ gs. AreUpTo gs values) (drop-map level stated) (up_to (drop level stated) values h)

-- no part ends before its group does: the next part would lead to the same nodes
no-earlier_part : (nodes : List Node) (level a b g lo : ℕ) (x : Group Statement) (xs : List (Group Statement)) (p : Part) (ps : List Part) → OneNode nodes level →
    ArePartsFrom nodes level a b g lo (p ∷ ps) → AreGroups (IsCoarsest (drop level ends)) lo g (x ∷ xs) → AreRight (node_claims nodes a b) (rows_of put_interval (x ∷ xs)) →
    p.hi < x.first.hi → ⊥
no-earlier_part nodes level a b g lo x xs p [] one s h l less =
    let e = groups-bound (IsCoarsest (drop level ends)) (suc x.first.hi) g xs h.4 in omega (arith, e, s.rise.1, less)
no-earlier_part nodes level a b g lo x xs p (q ∷ ps) one s h l less =
    let e = bounded nodes level a b g lo p (q ∷ ps) s in
    let top = groups-bound (IsCoarsest (drop level ends)) (suc x.first.hi) g xs h.4 in
    let t = parts-rest nodes level a b g lo p q ps s in
    let e' = bounded nodes level a b g (suc p.hi) q ps t in
    let here = group-claims nodes level a b g lo x xs p (q ∷ ps) lo s l (omega arith) e.0 (omega (arith, e.0, e.1)) (omega (arith, h.1)) h.2 in
    let next = group-claims nodes level a b g (suc p.hi) x xs q ps (suc p.hi) t l (omega arith) e'.0 (omega (arith, e'.0, e'.1)) (omega (arith, h.1, s.rise.0)) less in
    let agree : (values : List ℕ) → AreValues (drop level stated) values → node_claims nodes p.left.0 p.right.0 values ≡ node_claims nodes q.left.0 q.right.0 values =
    λ values is. claims-agree (drop level ends) (node_claims nodes p.left.0 p.right.0) (node_claims nodes q.left.0 q.right.0) x.rest values (values-up_to level values is) h.3 here next in
    elim (adjacent.head PartsDiffer p q ps s.apart) [
      | inl n ↦
          n (same_id p.left q.left (one p.left.0 q.left.0 s.levels.0 t.levels.0
          (λ values is. same_answer (answer nodes p.left.0 values) (answer nodes q.left.0 values) (ap (λ (c : Claims). c.0) (agree values is)))))
      | inr n ↦
          n (same_id p.right q.right (one p.right.0 q.right.0 s.levels.1 t.levels.1
          (λ values is. same_answer (answer nodes p.right.0 values) (answer nodes q.right.0 values) (ap (λ (c : Claims). c.1) (agree values is)))))
    ]

-- the groups and the parts from a value on, in turn
abbrev PairedFrom : List Node → ℕ → ℕ → List (Group Statement) → List Part → Type 0
PairedFrom nodes level lo [] [] = Unit {0}
PairedFrom nodes level lo [] (p ∷ ps) = ⊥
PairedFrom nodes level lo (x ∷ xs) [] = ⊥
PairedFrom nodes level lo (x ∷ xs) (p ∷ ps) = IsPaired nodes level lo x p × PairedFrom nodes level (suc p.hi) xs ps

paired-first : (nodes : List Node) (level a b g lo : ℕ) (x : Group Statement) (xs : List (Group Statement)) (p : Part) (ps : List Part) → OneNode nodes level →
    ArePartsFrom nodes level a b g lo (p ∷ ps) → AreGroups (IsCoarsest (drop level ends)) lo g (x ∷ xs) → Differ (x ∷ xs) →
    AreRight (node_claims nodes a b) (rows_of put_interval (x ∷ xs)) → IsPaired nodes level lo x p
paired-first nodes level a b g lo x xs p ps one s h d l =
    let e = bounded nodes level a b g lo p ps s in record {
      low = h.1;
      high = order x.first.hi p.hi (no-earlier_group nodes level a b g lo (drop level ends) x xs p ps s h d l) (no-earlier_part nodes level a b g lo x xs p ps one s h l);
      rows = record {
        coarsest = h.3;
        claimed = right-claimed (node_claims nodes p.left.0 p.right.0) x.rest
            (group-claims nodes level a b g lo x xs p ps lo s l (omega arith) e.0 (omega (arith, e.0, e.1)) (omega (arith, h.1)) h.2);
      };
    }

paired-from : (nodes : List Node) (level a b g lo : ℕ) (groups : List (Group Statement)) (parts : List Part) → OneNode nodes level → ArePartsFrom nodes level a b g lo parts →
    AreGroups (IsCoarsest (drop level ends)) lo g groups → Differ groups → AreRight (node_claims nodes a b) (rows_of put_interval groups) → PairedFrom nodes level lo groups parts
paired-from nodes level a b g lo groups [] one s h d l = absurd s.rise
paired-from nodes level a b g lo [] (p ∷ ps) one s h d l = let e = bounded nodes level a b g lo p ps s in absurd (omega (arith, h, e.0, e.1))
paired-from nodes level a b g lo (x ∷ []) (p ∷ []) one s h d l = (paired-first nodes level a b g lo x [] p [] one s h d l, tt)
paired-from nodes level a b g lo (x ∷ y ∷ xs) (p ∷ []) one s h d l =
    let top = groups-bound (IsCoarsest (drop level ends)) (suc y.first.hi) g xs h.4.4 in
    absurd (omega (arith, top, h.4.2, (paired-first nodes level a b g lo x (y ∷ xs) p [] one s h d l).high, s.rise.1))
paired-from nodes level a b g lo (x ∷ xs) (p ∷ q ∷ ps) one s h d l =
    let f = paired-first nodes level a b g lo x xs p (q ∷ ps) one s h d l in (
      f,
      paired-from nodes level a b g (suc p.hi) xs (q ∷ ps) one (parts-rest nodes level a b g lo p q ps s)
          (subst (λ n. AreGroups (IsCoarsest (drop level ends)) (suc n) g xs) f.high h.4) (differ-rest x xs d)
          (claimed-more (node_claims nodes a b) x.first x.rest (rows_of put_interval xs) l),
    )

paired-count : (nodes : List Node) (level lo : ℕ) (groups : List (Group Statement)) (parts : List Part) → PairedFrom nodes level lo groups parts → length groups ≡ length parts
paired-count nodes level lo [] [] h = refl
paired-count nodes level lo (x ∷ xs) (p ∷ ps) h = ap suc (paired-count nodes level (suc p.hi) xs ps h.1)
paired-count nodes level lo groups parts h = absurd h

-- where the part at a place begins, if the first one begins at a value
abbrev pub begins_from : ℕ → List Part → ℕ → ℕ
begins_from lo parts zero = lo
begins_from lo parts (suc k) = begins_at parts (suc k)

pub begins-next : (lo : ℕ) (p : Part) (ps : List Part) (k : ℕ) → begins_from (suc p.hi) ps k ≡ begins_from lo (p ∷ ps) (suc k)
begins-next lo p ps zero = refl
begins-next lo p ps (suc k) = refl

paired-at : (nodes : List Node) (level lo : ℕ) (groups : List (Group Statement)) (parts : List Part) → PairedFrom nodes level lo groups parts → (k : ℕ) (d : Group Statement) (e : Part) → k < length parts →
    IsPaired nodes level (begins_from lo parts k) (get_or groups k d) (get_or parts k e)
paired-at nodes level lo groups [] h k d e less = absurd (omega (arith, less))
paired-at nodes level lo [] (p ∷ ps) h k d e less = absurd h
paired-at nodes level lo (x ∷ xs) (p ∷ ps) h zero d e less = h.0
paired-at nodes level lo (x ∷ xs) (p ∷ ps) h (suc k) d e less =
    subst (λ n. IsPaired nodes level n (get_or xs k d) (get_or ps k e)) (begins-next lo p ps k) (paired-at nodes level (suc p.hi) xs ps h.1 k d e (omega (arith, less)))

pub begins-zero : (parts : List Part) (k : ℕ) → begins_from 0 parts k ≡ begins_at parts k
begins-zero parts zero = refl
begins-zero parts (suc k) = refl

levels-of : (nodes : List Node) (level : ℕ) (parts : List Part) → LeadTo nodes (drop level stated) (map to_left parts) → LeadTo nodes (drop level stated) (map to_right parts) → AreOfLevel nodes level parts
levels-of nodes level [] l r = tt
levels-of nodes level (p ∷ ps) l r = (
  l 0 (to_left p) (omega arith),
  r 0 (to_right p) (omega arith),
  levels-of nodes level ps (All-tail (λ (e : Edge). level_of nodes e.to.0 ≡ drop level stated) (to_left p) (map to_left ps) l) (All-tail (λ (e : Edge). level_of nodes e.to.0 ≡ drop level stated) (to_right p) (map to_right ps) r),
)

-- the groups of the rows of two nodes, one for each part
pub record HasGroups (nodes : List Node) (level : ℕ) (rows : List Statement) (parts : List Part) : Type 0 where
  pub groups : List (Group Statement)
  pub rows_are : rows ≡ rows_of put_interval groups
  pub paired : ArePaired nodes level groups parts

paired-groups : (nodes : List Node) (level a b g : ℕ) (groups : List (Group Statement)) (parts : List Part) → PairedFrom nodes level 0 groups parts → ArePaired nodes level groups parts
paired-groups nodes level a b g groups parts h = record {
  count = paired-count nodes level 0 groups parts h;
  each = λ k d e less. subst (λ n. IsPaired nodes level n (get_or groups k d) (get_or parts k e)) (begins-zero parts k) (paired-at nodes level 0 groups parts h k d e less);
}

grouped : (nodes : List Node) (level a b g : ℕ) (rows : List Statement) (parts : List Part) → OneNode nodes (suc level) → IsSplit g (edges_of nodes a) (edges_of nodes b) parts →
    LeadTo nodes (drop (suc level) stated) (map to_left parts) → LeadTo nodes (drop (suc level) stated) (map to_right parts) →
    IsCoarsest (g ∷ drop (suc level) ends) rows → AreRight (node_claims nodes a b) rows → HasGroups nodes (suc level) rows parts
grouped nodes level a b g rows parts one s left right c l = record {
  groups = c.0;
  rows_are = c.1;
  paired = paired-groups nodes (suc level) a b g c.0 parts (paired-from nodes (suc level) a b g 0 c.0 parts one
      record {
        rise = edges.rise_of g (map to_left parts) s.full;
        left = λ v low high. s.left v high;
        right = λ v low high. s.right v high;
        apart = s.apart;
        levels = levels-of nodes (suc level) parts left right;
      }
      c.2 c.3 (subst (AreRight (node_claims nodes a b)) c.1 l));
}

-- a level above the leaves has a field
fields-from : (level : ℕ) → level < 5 → drop level ends ≡ greatest_of level ∷ drop (suc level) ends
fields-from (suc (suc (suc (suc (suc level))))) h = absurd (omega (arith, h))
fields-from level h = refl

pub has-groups : (nodes : List Node) (level a b : ℕ) (rows : List Statement) (parts : List Part) → level < 5 → OneNode nodes (suc level) → IsSplit (greatest_of level) (edges_of nodes a) (edges_of nodes b) parts →
    LeadTo nodes (drop (suc level) stated) (map to_left parts) → LeadTo nodes (drop (suc level) stated) (map to_right parts) → AreRowsOf nodes level a b rows → HasGroups nodes (suc level) rows parts
has-groups nodes level a b rows parts less one s left right h =
    grouped nodes level a b (greatest_of level) rows parts one s left right (subst (λ gs. IsCoarsest gs rows) (fields-from level less) h.coarsest) (claimed-right (node_claims nodes a b) rows h.claimed)

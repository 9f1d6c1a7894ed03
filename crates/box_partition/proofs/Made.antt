-- What the rows of groups claim, and that rows which make two claims make one.
use Rattle.std.proofs.Common.{◌≡◌, ◌∷◌, ℕ, List, [], ◌++◌, ◌≤◌, ◌<◌, sym, subst, ◌∙◌, inl, inr, arith, ◌⊎◌, map, suc}
use Rattle.field_boxes.specs.Headline.Classifier.{Interval}
use Rattle.partition_check.specs.Boxes.{AreUpTo}
use Rattle.field_boxes.specs.Boxes.{LiesIn}
use Rattle.partition_check.specs.Partition.{Group, rows_of, AreGroups}
use Rattle.partition_check.specs.Checking.{Statement}
use Rattle.box_partition.specs.Coarsest.{Claims, claims_of, put_interval, IsCoarsest}
use Rattle.box_partition.proofs.Coarse.{starting, AreRight, claimed-group, claimed-more}

-- at each value of its interval a group's rows claim this of the headers that begin with the value
abbrev pub EachRight : (List ℕ → Claims) → List (Group Statement) → Type 0
EachRight f [] = Unit {0}
EachRight f (x ∷ groups) = ((v : ℕ) → x.first.lo ≤ v → v ≤ x.first.hi → AreRight (starting f v) x.rest) × EachRight f groups

row-right : (f : List ℕ → Claims) (i : Interval) (r : Statement) →
    ((v : ℕ) → i.lo ≤ v → v ≤ i.hi → (vs : List ℕ) → LiesIn r.box vs → f (v ∷ vs) ≡ claims_of r) →
    (vs : List ℕ) → LiesIn (i ∷ r.box) vs → f vs ≡ claims_of r
row-right f i r each [] h = absurd h
row-right f i r each (v ∷ vs) h = each v h.0 h.1 vs h.2

group-right : (f : List ℕ → Claims) (i : Interval) (rest more : List Statement) → ((v : ℕ) → i.lo ≤ v → v ≤ i.hi → AreRight (starting f v) rest) →
    AreRight f more → AreRight f (map (put_interval i) rest ++ more)
group-right f i [] more each l = l
group-right f i (r ∷ rest) more each l =
    (row-right f i r (λ v low high. (each v low high).0), group-right f i rest more (λ v low high. (each v low high).1) l)

pub groups-right : (f : List ℕ → Claims) (groups : List (Group Statement)) → EachRight f groups → AreRight f (rows_of put_interval groups)
groups-right f [] each = tt
groups-right f (x ∷ groups) each = group-right f x.first x.rest (rows_of put_interval groups) each.0 (groups-right f groups each.1)

low-or-high : (v hi : ℕ) → (v ≤ hi) ⊎ (hi < v)
low-or-high v hi = grind arith

-- rows of which each group's make one claim of the rest of a header make one claim of the header
abbrev AgreeAt : (List Statement → Type 0) → List ℕ → Type 0
AgreeAt P vs = (f h : List ℕ → Claims) (rows : List Statement) → P rows → AreRight f rows → AreRight h rows → f vs ≡ h vs

agree-groups : (P : List Statement → Type 0) (f h : List ℕ → Claims) (lo g : ℕ) (groups : List (Group Statement)) (v : ℕ) (vs : List ℕ) → AgreeAt P vs → AreGroups P lo g groups →
    AreRight f (rows_of put_interval groups) → AreRight h (rows_of put_interval groups) → lo ≤ v → v ≤ g → f (v ∷ vs) ≡ h (v ∷ vs)
agree-groups P f h lo g [] v vs each a l m low high = absurd (omega (arith, a, low, high))
agree-groups P f h lo g (x ∷ groups) v vs each a l m low high = elim (low-or-high v x.first.hi) [
  | inl here ↦
      each (starting f v) (starting h v) x.rest a.3 (claimed-group f x.first v x.rest (rows_of put_interval groups) (omega (arith, a.1, low)) here l)
      (claimed-group h x.first v x.rest (rows_of put_interval groups) (omega (arith, a.1, low)) here m)
  | inr past ↦
      agree-groups P f h (suc x.first.hi) g groups v vs each a.4 (claimed-more f x.first x.rest (rows_of put_interval groups) l)
      (claimed-more h x.first x.rest (rows_of put_interval groups) m) (omega (arith, past)) high
]

-- what the same rows claim is the same for each header
pub claims-agree : (gs : List ℕ) (f h : List ℕ → Claims) (rows : List Statement) (vs : List ℕ) → AreUpTo gs vs → IsCoarsest gs rows → AreRight f rows → AreRight h rows → f vs ≡ h vs
claims-agree [] f h rows [] ok p l m =
    let inside : LiesIn p.0.box [] = subst (λ b. LiesIn b []) (sym p.1) tt in
    (subst (AreRight f) p.2 l).0 [] inside ∙ sym ((subst (AreRight h) p.2 m).0 [] inside)
claims-agree (g ∷ gs) f h rows (v ∷ vs) ok p l m =
    agree-groups (IsCoarsest gs) f h 0 g p.0 v vs (λ f' h' rest q a b. claims-agree gs f' h' rest vs ok.1 q a b) p.2 (subst (AreRight f) p.1 l) (subst (AreRight h) p.1 m) (omega arith) ok.0
claims-agree gs f h rows vs ok p l m = absurd ok

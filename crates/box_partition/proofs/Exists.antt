-- There is a coarsest partition for any claims.
use Rattle.std.proofs.Common.{◌≡◌, ◌∷◌, ℕ, List, [], ◌+◌, ◌++◌, ◌≤◌, ◌<◌, arith, ap, refl, ◌∙◌, subst, inl, inr, ◌⊎◌, ◌≢◌, suc, zero, length, map, Option, Some, None}
use Rattle.field_boxes.specs.Headline.Classifier.{Interval}
use Rattle.field_boxes.specs.Boxes.{LiesIn}
use Rattle.partition_check.specs.Partition.{Group, rows_of, AreGroups}
use Rattle.partition_check.specs.Checking.{Statement}
use Rattle.box_partition.specs.Coarsest.{Claims, claims_of, put_interval, Differ, IsCoarsest, AreClaimed}
use Rattle.box_partition.proofs.Coarse.{starting, AreRight, right-claimed, row-same}
use Rattle.field_boxes.proofs.SameValues.{same_interval}
use Rattle.box_partition.proofs.Made.{EachRight, groups-right}

-- whether two values are one is decided
abbrev pub Told : Type 0 → Type 0
Told X = (x y : X) → (x ≡ y) ⊎ (x ≢ y)

pub number-told : Told ℕ
number-told a b = grind arith

pub list-told : {X : Type 0} → Told X → Told (List X)
list-told told [] [] = inl refl
list-told told (x ∷ xs) (y ∷ ys) = elim (told x y) [
  | inl p ↦ elim (list-told told xs ys) [ inl q ↦ inl (cc) | inr n ↦ inr (λ e. n (cc)) ]
  | inr n ↦ inr (λ e. n (cc))
]
list-told told xs ys = inr (λ e. cc)

pub option-told : {X : Type 0} → Told X → Told (Option X)
option-told told None None = inl refl
option-told told (Some x) (Some y) = elim (told x y) [ inl p ↦ inl (cc) | inr n ↦ inr (λ e. n (cc)) ]
option-told told x y = inr (λ e. cc)

pair-same : {X Y : Type 0} (x y : X × Y) → x.0 ≡ y.0 → x.1 ≡ y.1 → x ≡ y
pair-same {X} {Y} x y p q = ap (λ (a : X). let r : X × Y = (a, x.1) in r) p ∙ ap (λ (b : Y). let r : X × Y = (y.0, b) in r) q

pub pair-told : {X Y : Type 0} → Told X → Told Y → Told (X × Y)
pair-told told also x y = elim (told x.0 y.0) [
  | inl p ↦ elim (also x.1 y.1) [ inl q ↦ inl (pair-same x y p q) | inr n ↦ inr (λ e. n (ap (λ z. z.1) e)) ]
  | inr n ↦ inr (λ e. n (ap (λ z. z.0) e))
]

pub interval-told : Told Interval
interval-told i j = elim (number-told i.lo j.lo) [
  | inl p ↦ elim (number-told i.hi j.hi) [ inl q ↦ inl (same_interval i j p q) | inr n ↦ inr (λ e. n (ap (λ z. z.hi) e)) ]
  | inr n ↦ inr (λ e. n (ap (λ z. z.lo) e))
]

pub claims-told : Told Claims
claims-told = pair-told (option-told number-told) (option-told number-told)

pub row-told : Told Statement
row-told r s = elim (list-told interval-told r.box s.box) [
  | inl p ↦ elim (claims-told (claims_of r) (claims_of s)) [ inl q ↦ inl (row-same r s p q) | inr n ↦ inr (λ e. n (ap claims_of e)) ]
  | inr n ↦ inr (λ e. n (ap (λ (t : Statement). t.box) e))
]

-- a coarsest partition is not empty
some-group : (i : Interval) (rest more : List Statement) → 0 < length rest → 0 < length (map (put_interval i) rest ++ more)
some-group i [] more h = absurd (omega (arith, h))
some-group i (r ∷ rest) more h = omega arith

some-groups : (P : List Statement → Type 0) (g : ℕ) (groups : List (Group Statement)) → AreGroups P 0 g groups → 0 < length (rows_of put_interval groups)
some-groups P g [] h = absurd (omega (arith, h))
some-groups P g (x ∷ groups) h = some-group x.first x.rest (rows_of put_interval groups) h.0

pub coarsest-some : (gs : List ℕ) (rows : List Statement) → IsCoarsest gs rows → 0 < length rows
coarsest-some [] rows h = rw h.2 (omega arith)
coarsest-some (g ∷ gs) rows h = rw h.1 (some-groups (IsCoarsest gs) g h.0 h.2)

-- groups from lo on that differ and make the claims
record AreMade (gs : List ℕ) (f : List ℕ → Claims) (lo g : ℕ) (groups : List (Group Statement)) : Type 0 where
  groups_follow : AreGroups (IsCoarsest gs) lo g groups
  differ : Differ groups
  right : EachRight f groups

differ-first : (x y : Group Statement) (groups : List (Group Statement)) → x.rest ≡ y.rest → Differ (x ∷ groups) → Differ (y ∷ groups)
differ-first x y [] e d = tt
differ-first x y (z ∷ groups) e d = ((λ p. d.0 (e ∙ p)), d.1)

apart : (lo v : ℕ) → lo ≤ v → (lo ≡ v) ⊎ (suc lo ≤ v)
apart lo v h = grind (arith, h)

longer : (f : List ℕ → Claims) (lo : ℕ) (x : Group Statement) → AreRight (starting f lo) x.rest →
    ((v : ℕ) → suc lo ≤ v → v ≤ x.first.hi → AreRight (starting f v) x.rest) → (v : ℕ) → lo ≤ v → v ≤ x.first.hi → AreRight (starting f v) x.rest
longer f lo x here later v low high = elim (apart lo v low) [ inl e ↦ subst (λ n. AreRight (starting f n) x.rest) e here | inr less ↦ later v less high ]

alone : (f : List ℕ → Claims) (lo : ℕ) (rows : List Statement) → AreRight (starting f lo) rows → (v : ℕ) → lo ≤ v → v ≤ lo → AreRight (starting f v) rows
alone f lo rows here v low high = let e : lo ≡ v = omega (arith, low, high) in subst (λ n. AreRight (starting f n) rows) e here

abbrev new_group : ℕ → List Statement → Group Statement
new_group lo rows = record { first = record { lo = lo; hi = lo }; rest = rows }

abbrev longer_group : ℕ → Group Statement → Group Statement
longer_group lo x = record { first = record { lo = lo; hi = x.first.hi }; rest = x.rest }

in-front : (gs : List ℕ) (f : List ℕ → Claims) (lo g : ℕ) (rows : List Statement) (groups : List (Group Statement)) → Told (List Statement) →
    IsCoarsest gs rows → AreRight (starting f lo) rows → lo ≤ g → AreMade gs f (suc lo) g groups →
    (more : List (Group Statement)) × AreMade gs f lo g more
in-front gs f lo g rows [] told p r low m = (
  new_group lo rows ∷ [],
  record { groups_follow = (coarsest-some gs rows p, refl, omega arith, p, m.groups_follow); differ = tt; right = (alone f lo rows r, tt) },
)
in-front gs f lo g rows (x ∷ groups) told p r low m = elim (told rows x.rest) [
  | inl e ↦ (
    longer_group lo x ∷ groups,
    record {
      groups_follow = (m.groups_follow.0, refl, omega (arith, m.groups_follow.2), m.groups_follow.3, m.groups_follow.4);
      differ = differ-first x (longer_group lo x) groups refl m.differ;
      right = (longer f lo x (subst (AreRight (starting f lo)) e r) (λ v less high. m.right.0 v (omega (arith, m.groups_follow.1, less)) high), m.right.1);
    },
  )
  | inr n ↦ (
    new_group lo rows ∷ x ∷ groups,
    record { groups_follow = (coarsest-some gs rows p, refl, omega arith, p, m.groups_follow); differ = (n, m.differ); right = (alone f lo rows r, m.right) },
  )
]

groups-from : (n : ℕ) (gs : List ℕ) (f : List ℕ → Claims) (lo g : ℕ) → Told (List Statement) → lo + n ≡ suc g →
    ((h : List ℕ → Claims) → (rows : List Statement) × IsCoarsest gs rows × AreRight h rows) → (groups : List (Group Statement)) × AreMade gs f lo g groups
groups-from zero gs f lo g told e make = ([], record { groups_follow = omega (arith, e); differ = tt; right = tt })
groups-from (suc n) gs f lo g told e make =
    let m = make (starting f lo) in
    let r = groups-from n gs f (suc lo) g told (omega (arith, e)) make in
    in-front gs f lo g m.0 r.0 told m.1 m.2 (omega (arith, e)) r.1

right-one_row : (f : List ℕ → Claims) (vs : List ℕ) → LiesIn [] vs → f vs ≡ f []
right-one_row f [] h = refl
right-one_row f (v ∷ vs) h = absurd h

pub coarsest-exists : (gs : List ℕ) (f : List ℕ → Claims) → (rows : List Statement) × IsCoarsest gs rows × AreRight f rows
coarsest-exists [] f = let s : Statement = record { box = []; rule = (f []).0; entry = (f []).1 } in (s ∷ [], (s, refl, refl), (right-one_row f, tt))
coarsest-exists (g ∷ gs) f =
    let r = groups-from (suc g) gs f 0 g (list-told row-told) (omega arith) (coarsest-exists gs) in
    (rows_of put_interval r.0, (r.0, refl, r.1.groups_follow, r.1.differ), groups-right f r.0 r.1.right)

pub coarsest-made : (gs : List ℕ) (f : List ℕ → Claims) → (rows : List Statement) × IsCoarsest gs rows × AreClaimed f rows
coarsest-made gs f = let r = coarsest-exists gs f in (r.0, r.1, right-claimed f r.0 r.2)

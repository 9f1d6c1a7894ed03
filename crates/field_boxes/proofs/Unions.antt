-- Unions of intervals that rise apart.
use Rattle.std.proofs.Common.{◌≡◌, ℕ, ◌+◌, ◌≤◌, ◌<◌, List, [], ◌∷◌, ◌++◌, Bool, true, false, refl, ap, sym, ◌∙◌, arith, inl, inr}
use Rattle.std.specs.Prelude.{◌&&◌, nat_le, max}
use Rattle.std.specs.List.{list_any}
use Rattle.std.proofs.Math.Nat.{le_refl}
use Rattle.std.proofs.lemmas.Bool.{true≢false, leb-true, leb-false, le-leb, lt-leb, and_parts, and_from, and_cases, or_cases, or_parts, or_from, or_left, or_right, and_right, cases_lt, false≢true}
use Rattle.field_boxes.specs.Headline.Classifier.{Interval, interval_holds, union_holds}
use Rattle.field_boxes.specs.Unions.{RiseApart}

pub holds_between : (v : ℕ) (i : Interval) → i.lo ≤ v → v ≤ i.hi → interval_holds v i ≡ true
holds_between v i low high = and_from (nat_le i.lo v) (nat_le v i.hi) (le-leb i.lo v low) (le-leb v i.hi high)

pub between : (v : ℕ) (i : Interval) → interval_holds v i ≡ true → (i.lo ≤ v) × (v ≤ i.hi)
between v i h = let both = and_parts (nat_le i.lo v) (nat_le v i.hi) h in (leb-true i.lo v both.0, leb-true v i.hi both.1)

pub not_below : (v : ℕ) (i : Interval) → v < i.lo → interval_holds v i ≡ false
not_below v i h = ap (λ b. b && nat_le v i.hi) (lt-leb i.lo v h)

pub not_past : (v : ℕ) (i : Interval) → i.hi < v → interval_holds v i ≡ false
not_past v i h = and_right (nat_le i.lo v) (nat_le v i.hi) (lt-leb v i.hi h)

pub weaken : (low higher top : ℕ) (is : List Interval) → low ≤ higher → RiseApart higher top is → RiseApart low top is
weaken low higher top [] h rise = tt
weaken low higher top (i ∷ is) h rise = let at = rise.0 in (omega arith, rise.1, rise.2, rise.3)

-- no value below the first interval is held
pub below : (low top v : ℕ) (is : List Interval) → RiseApart low top is → v < low → union_holds v is ≡ false
below low top v [] rise h = refl
below low top v (i ∷ is) rise h =
    let a = rise.0 in
    let b = rise.1 in
    or_from (interval_holds v i) (union_holds v is) (not_below v i (omega arith)) (below (i.hi + 2) top v is rise.3 (omega arith))

-- no value past the top is held
pub within : (low top v : ℕ) (is : List Interval) → RiseApart low top is → union_holds v is ≡ true → v ≤ top
within low top v [] rise h = absurd (false≢true h)
within low top v (i ∷ is) rise h =
    elim (or_cases (interval_holds v i) (union_holds v is) h) [
      | inl at ↦ let b = between v i at in let t = rise.2 in omega (arith, b.1)
      | inr later ↦ within (i.hi + 2) top v is rise.3 later
    ]

-- two lists may be continued in another way where what follows may
pub with_tail : (low top : ℕ) (front xs ys zs : List Interval) → ((l : ℕ) → RiseApart l top xs → RiseApart l top ys → RiseApart l top zs) →
    RiseApart low top (front ++ xs) → RiseApart low top (front ++ ys) → RiseApart low top (front ++ zs)
with_tail low top [] xs ys zs step a b = step low a b
with_tail low top (i ∷ front) xs ys zs step a b = (a.0, a.1, a.2, with_tail (i.hi + 2) top front xs ys zs step a.3 b.3)

-- the values from lo to hi lie in one of the intervals
abbrev pub has_both : ℕ → ℕ → List Interval → Bool
has_both lo hi is = list_any (λ i. nat_le i.lo lo && nat_le hi i.hi) is

pub held_by_one : (lo hi v : ℕ) (is : List Interval) → has_both lo hi is ≡ true → lo ≤ v → v ≤ hi → union_holds v is ≡ true
held_by_one lo hi v [] h low high = absurd (false≢true h)
held_by_one lo hi v (i ∷ is) h low high =
    elim (or_cases (nat_le i.lo lo && nat_le hi i.hi) (has_both lo hi is) h) [
      | inl here ↦
          let ends = and_parts (nat_le i.lo lo) (nat_le hi i.hi) here in
          let from = leb-true i.lo lo ends.0 in
          let to = leb-true hi i.hi ends.1 in
          or_left (interval_holds v i) (union_holds v is) (holds_between v i (omega arith) (omega arith))
      | inr later ↦ or_right (interval_holds v i) (union_holds v is) (held_by_one lo hi v is later low high)
    ]

-- a value from lo to hi that no interval holds
abbrev pub Missing : ℕ → ℕ → List Interval → Type 0
Missing lo hi is = (v : ℕ) × (lo ≤ v) × (v ≤ hi) × (union_holds v is ≡ false)

missing_here : (low top lo hi : ℕ) (i : Interval) (is : List Interval) → lo ≤ hi → RiseApart low top (i ∷ is) → (nat_le i.lo lo && nat_le hi i.hi) ≡ false →
    (i.hi + 1 < lo → Missing lo hi is) → Missing lo hi (i ∷ is)
missing_here low top lo hi i is le rise none later =
    elim (cases_lt lo i.lo) [
      | inl before ↦
          let inner = rise.1 in (
            lo,
            le_refl lo,
            le,
            or_from (interval_holds lo i) (union_holds lo is) (not_below lo i before) (below (i.hi + 2) top lo is rise.3 (omega arith)),
          )
      | inr from ↦ elim (cases_lt (i.hi + 1) lo) [
        | inl past ↦
            let found = later past in
            let at = found.1 in (
              found.0,
              found.1,
              found.2,
              or_from (interval_holds found.0 i) (union_holds found.0 is) (not_past found.0 i (omega arith)) found.3,
            )
        | inr near ↦
            let beyond : i.hi < hi = elim (and_cases (nat_le i.lo lo) (nat_le hi i.hi) none) [
              | inl under ↦ absurd (true≢false (sym (le-leb i.lo lo from) ∙ under))
              | inr over ↦ leb-false hi i.hi over
            ] in (
              i.hi + 1,
              near,
              omega arith,
              or_from (interval_holds (i.hi + 1) i) (union_holds (i.hi + 1) is) (not_past (i.hi + 1) i (omega arith)) (below (i.hi + 2) top (i.hi + 1) is rise.3 (omega arith)),
            )
      ]
    ]

pub missing : (low top lo hi : ℕ) (is : List Interval) → lo ≤ hi → RiseApart low top is → has_both lo hi is ≡ false → Missing lo hi is
missing low top lo hi [] le rise none = (lo, le_refl lo, le, refl)
missing low top lo hi (i ∷ is) le rise none =
    let parts = or_parts (nat_le i.lo lo && nat_le hi i.hi) (has_both lo hi is) none in
    missing_here low top lo hi i is le rise parts.0 (λ _. missing (i.hi + 2) top lo hi is le rise.3 parts.1)

-- some value from lo to hi lies in one of the intervals
abbrev pub has_common : ℕ → ℕ → List Interval → Bool
has_common lo hi is = list_any (λ i. nat_le i.lo hi && nat_le lo i.hi) is

abbrev pub Common : ℕ → ℕ → List Interval → Type 0
Common lo hi is = (v : ℕ) × (lo ≤ v) × (v ≤ hi) × (union_holds v is ≡ true)

pub common : (low top lo hi : ℕ) (is : List Interval) → lo ≤ hi → RiseApart low top is → has_common lo hi is ≡ true → Common lo hi is
common low top lo hi [] le rise h = absurd (false≢true h)
common low top lo hi (i ∷ is) le rise h =
    elim (or_cases (nat_le i.lo hi && nat_le lo i.hi) (has_common lo hi is) h) [
      | inl here ↦
          let ends = and_parts (nat_le i.lo hi) (nat_le lo i.hi) here in
          let from = leb-true i.lo hi ends.0 in
          let to = leb-true lo i.hi ends.1 in
          let inner = rise.1 in (
            max lo i.lo,
            omega arith,
            omega arith,
            or_left (interval_holds (max lo i.lo) i) (union_holds (max lo i.lo) is) (holds_between (max lo i.lo) i (omega arith) (omega arith)),
          )
      | inr later ↦
          let found = common (i.hi + 2) top lo hi is le rise.3 later in
          (found.0, found.1, found.2, or_right (interval_holds found.0 i) (union_holds found.0 is) found.3)
    ]

pub none_common : (lo hi v : ℕ) (is : List Interval) → has_common lo hi is ≡ false → lo ≤ v → v ≤ hi → union_holds v is ≡ false
none_common lo hi v [] h low high = refl
none_common lo hi v (i ∷ is) h low high =
    let parts = or_parts (nat_le i.lo hi && nat_le lo i.hi) (has_common lo hi is) h in
    or_from (interval_holds v i) (union_holds v is)
    (elim (and_cases (nat_le i.lo hi) (nat_le lo i.hi) parts.0) [
      | inl above ↦ let far = leb-false i.lo hi above in not_below v i (omega arith)
      | inr over ↦ let far = leb-false lo i.hi over in not_past v i (omega arith)
    ])
    (none_common lo hi v is parts.1 low high)

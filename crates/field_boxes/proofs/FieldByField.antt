-- Headers, boxes and rules, field by field.
use Rattle.std.proofs.Common.{◌≡◌, ℕ, ◌≤◌, ◌<◌, ◌^◌, List, [], ◌∷◌, length, get_or, arith, refl, ap, subst, sym, ◌∙◌, inl, inr}
use Rattle.std.specs.Prelude.{suc, zero, true, false, ◌⊎◌, map, slice_index_or, unwrap_or, option_map}
use Rattle.std.proofs.lemmas.Bool.{and_parts, and_from, and_left, and_right}
use Rattle.std.proofs.lemmas.Option.{slice_get-get_or, slice_get-map, unwrap_or-slice_get}
use Rattle.std.proofs.Math.Bool.{or-false}
use Rattle.field_boxes.specs.declared.span.Span.{Span}
use Rattle.field_boxes.specs.Headline.Fields.{stated, width, AreValues, IsHeader}
use Rattle.field_boxes.specs.Fields.{greatest_of}
use Rattle.field_boxes.specs.Headline.Classifier.{Rule, interval_holds, union_holds, set_holds, matches}
use Rattle.field_boxes.specs.Spans.{interval_of}
use Rattle.field_boxes.specs.Boxes.{box_of}

-- what holds of each of the five fields
pub five : (P : ℕ → Type 0) → P 0 → P 1 → P 2 → P 3 → P 4 → (k : ℕ) → k < 5 → P k
five P a b c d e zero h = a
five P a b c d e (suc zero) h = b
five P a b c d e (suc (suc zero)) h = c
five P a b c d e (suc (suc (suc zero))) h = d
five P a b c d e (suc (suc (suc (suc zero)))) h = e
five P a b c d e (suc (suc (suc (suc (suc n))))) h = absurd (omega (arith, h))

-- the greatest value is below the power
pub small : (k v : ℕ) → k < 5 → v ≤ greatest_of k → v < 2 ^ width k
small k v h low = five (λ j. v ≤ greatest_of j → v < 2 ^ width j) (λ l. omega arith) (λ l. omega arith) (λ l. omega arith) (λ l. omega arith) (λ l. omega arith) k h low

pub large : (k v : ℕ) → k < 5 → v < 2 ^ width k → v ≤ greatest_of k
large k v h low = five (λ j. v < 2 ^ width j → v ≤ greatest_of j) (λ l. omega arith) (λ l. omega arith) (λ l. omega arith) (λ l. omega arith) (λ l. omega arith) k h low

-- a field is one of these
abbrev Among : ℕ → List ℕ → Type 0
Among k [] = ⊥
Among k (f ∷ fs) = (k ≡ f) ⊎ Among k fs

abbrev AllBelow : List ℕ → Type 0
AllBelow [] = Unit {0}
AllBelow (f ∷ fs) = (f < 5) × AllBelow fs

among : (k : ℕ) → k < 5 → Among k stated
among k h = five (λ j. Among j stated) (inl refl) (inr (inl refl)) (inr (inr (inl refl))) (inr (inr (inr (inl refl)))) (inr (inr (inr (inr (inl refl))))) k h

all_below : AllBelow stated
all_below = (omega arith, (omega arith, (omega arith, (omega arith, (omega arith, tt)))))

-- the value of one field: it decides whether that field's set holds
abbrev ValueAt : ℕ → List ℕ → List ℕ → Type 0
ValueAt k fields values = (v : ℕ) × (v < 2 ^ width k) × ((r : Rule ℕ) → matches fields values r ≡ true → set_holds k v r ≡ true) × ((r : Rule ℕ) → set_holds k v r ≡ false → matches fields values r ≡ false)

first_value : (k f v : ℕ) (fields values : List ℕ) → k ≡ f → v < 2 ^ width f → ValueAt k (f ∷ fields) (v ∷ values)
first_value k f v fields values e small = (
  v,
  subst (λ j. v < 2 ^ width j) (sym e) small,
  λ r h. subst (λ j. set_holds j v r ≡ true) (sym e) (and_parts (set_holds f v r) (matches fields values r) h).0,
  λ r h. and_left (set_holds f v r) (matches fields values r) (subst (λ j. set_holds j v r ≡ false) e h),
)

later_value : (k f v : ℕ) (fields values : List ℕ) → ValueAt k fields values → ValueAt k (f ∷ fields) (v ∷ values)
later_value k f v fields values at = (
  at.0,
  at.1,
  λ r h. at.2 r (and_parts (set_holds f v r) (matches fields values r) h).1,
  λ r h. and_right (set_holds f v r) (matches fields values r) (at.3 r h),
)

value_at : (k : ℕ) (fields values : List ℕ) → AreValues fields values → Among k fields → ValueAt k fields values
value_at k [] values are among = absurd among
value_at k (f ∷ fields) [] are among = absurd are
value_at k (f ∷ fields) (v ∷ values) are (inl e) = first_value k f v fields values e are.0
value_at k (f ∷ fields) (v ∷ values) are (inr later) = later_value k f v fields values (value_at k fields values are.1 later)

-- a header's value of a field
pub header_at : (k : ℕ) (header : List ℕ) → k < 5 → IsHeader header → ValueAt k stated header
header_at k header h is = value_at k stated header is (among k h)

by_each : (p q : Rule ℕ) → ((k v : ℕ) → k < 5 → v < 2 ^ width k → set_holds k v p ≡ true → set_holds k v q ≡ true) →
    (fields values : List ℕ) → AllBelow fields → AreValues fields values → matches fields values p ≡ true → matches fields values q ≡ true
by_each p q step [] values below are h = refl
by_each p q step (f ∷ fields) [] below are h = absurd are
by_each p q step (f ∷ fields) (v ∷ values) below are h =
    let both = and_parts (set_holds f v p) (matches fields values p) h in
    and_from (set_holds f v q) (matches fields values q) (step f v below.0 are.0 both.0) (by_each p q step fields values below.1 are.1 both.1)

-- what matches one rule matches another, if it does so field by field
pub each_matches : (p q : Rule ℕ) (header : List ℕ) → IsHeader header → ((k v : ℕ) → k < 5 → v < 2 ^ width k → set_holds k v p ≡ true → set_holds k v q ≡ true) →
    matches stated header p ≡ true → matches stated header q ≡ true
each_matches p q header is step h = by_each p q step stated header all_below is h

chosen_are : (w : ℕ → ℕ) (fields : List ℕ) → AllBelow fields → ((k : ℕ) → k < 5 → w k < 2 ^ width k) → AreValues fields (map w fields)
chosen_are w [] below small = tt
chosen_are w (f ∷ fields) below small = (small f below.0, chosen_are w fields below.1 small)

chosen_match : (w : ℕ → ℕ) (r : Rule ℕ) (fields : List ℕ) → AllBelow fields → ((k : ℕ) → k < 5 → set_holds k (w k) r ≡ true) → matches fields (map w fields) r ≡ true
chosen_match w r [] below h = refl
chosen_match w r (f ∷ fields) below h = and_from (set_holds f (w f) r) (matches fields (map w fields) r) (h f below.0) (chosen_match w r fields below.1 h)

chosen_fail : (w : ℕ → ℕ) (r : Rule ℕ) (k : ℕ) (fields : List ℕ) → Among k fields → set_holds k (w k) r ≡ false → matches fields (map w fields) r ≡ false
chosen_fail w r k [] among h = absurd among
chosen_fail w r k (f ∷ fields) (inl e) h = and_left (set_holds f (w f) r) (matches fields (map w fields) r) (subst (λ j. set_holds j (w j) r ≡ false) e h)
chosen_fail w r k (f ∷ fields) (inr later) h = and_right (set_holds f (w f) r) (matches fields (map w fields) r) (chosen_fail w r k fields later h)

-- a header that is chosen value by value
abbrev pub header_of : (ℕ → ℕ) → List ℕ
header_of w = map w stated

pub is_header : (w : ℕ → ℕ) → ((k : ℕ) → k < 5 → w k ≤ greatest_of k) → IsHeader (header_of w)
is_header w low = chosen_are w stated all_below (λ k h. small k (w k) h (low k h))

pub header_matches : (w : ℕ → ℕ) (r : Rule ℕ) → ((k : ℕ) → k < 5 → set_holds k (w k) r ≡ true) → matches stated (header_of w) r ≡ true
header_matches w r h = chosen_match w r stated all_below h

pub header_fails : (w : ℕ → ℕ) (r : Rule ℕ) (k : ℕ) → k < 5 → set_holds k (w k) r ≡ false → matches stated (header_of w) r ≡ false
header_fails w r k low h = chosen_fail w r k stated (among k low) h

-- the rule of a box of spans holds a value of a field where the field's span does
pub box_set : (spans : List Span) (k v : ℕ) (d : Span) → k < length spans → (let box : Rule ℕ = record { sets = box_of spans; decision = 0 } in set_holds k v box) ≡ interval_holds v (interval_of (slice_index_or spans k d))
box_set spans k v d h =
    ap (λ o. union_holds v (unwrap_or o [])) (slice_get-map (λ (s : Span). interval_of s ∷ []) spans k ∙ ap (option_map (λ (s : Span). interval_of s ∷ [])) (slice_get-get_or spans k d h))
    ∙ or-false (interval_holds v (interval_of (slice_index_or spans k d)))

-- a rule's set by its place
pub set_at : (r : Rule ℕ) (k v : ℕ) → set_holds k v r ≡ union_holds v (slice_index_or r.sets k [])
set_at r k v = ap (union_holds v) (unwrap_or-slice_get r.sets k [])

-- five items by their places
pub five_items : {X : Type 0} (xs : List X) (a b c d e : X) → length xs ≡ 5 → get_or xs 0 a ∷ get_or xs 1 b ∷ get_or xs 2 c ∷ get_or xs 3 d ∷ get_or xs 4 e ∷ [] ≡ xs
five_items [] a b c d e h = absurd (omega (arith, h))
five_items (v ∷ []) a b c d e h = absurd (omega (arith, h))
five_items (v ∷ w ∷ []) a b c d e h = absurd (omega (arith, h))
five_items (v ∷ w ∷ x ∷ []) a b c d e h = absurd (omega (arith, h))
five_items (v ∷ w ∷ x ∷ y ∷ []) a b c d e h = absurd (omega (arith, h))
five_items (v ∷ w ∷ x ∷ y ∷ z ∷ []) a b c d e h = refl
five_items (v ∷ w ∷ x ∷ y ∷ z ∷ u ∷ xs) a b c d e h = absurd (omega (arith, h))

-- The tests of an order, and the fields that each order has.
use Rattle.std.proofs.Common.{◌≡◌, ◌∷◌, ℕ, zero, suc, List, [], ◌+◌, ◌<◌, ◌≤◌, ◌^◌, Bool, true, false, length, ap, arith, refl, sym, ◌∙◌, subst, inl, inr}
use Rattle.std.specs.Prelude.{cond, not, ◌&&◌, nat_eq, nat_lt, slice_index}
use Rattle.std.specs.List.{All, list_any}
use Rattle.std.proofs.lemmas.Bool.{and_parts, and_from, or_parts, or_from, not-true, not_from_false, ltb-true, lt-ltb, eqb-false, ne_eqb}
use Rattle.std.proofs.lemmas.Bool.Decides.{eqb_tells}
use Rattle.std.proofs.lemmas.List.Elements.{All-nil, All-cons, All-head, All-tail}
use Rattle.field_boxes.specs.Headline.Fields.{width, stated, AreValues, IsHeader}
use Rattle.field_boxes.specs.Fields.{greatest_of}
use Rattle.field_boxes.specs.Orders.{picked, Has, IsMissing, AreDistinct, IsOrder, are_fields, are_distinct, is_order}

fields_true : (xs : List ℕ) → are_fields xs ≡ true → All (λ f. f < 5) xs
fields_true [] h = All-nil (λ f. f < 5)
fields_true (f ∷ xs) h =
    let p = and_parts (nat_lt f 5) (are_fields xs) h in
    All-cons (λ g. g < 5) f xs (ltb-true f 5 p.0) (fields_true xs p.1)

fields_tested : (xs : List ℕ) → All (λ f. f < 5) xs → are_fields xs ≡ true
fields_tested [] h = refl
fields_tested (f ∷ xs) h =
    and_from (nat_lt f 5) (are_fields xs) (lt-ltb f 5 (All-head (λ g. g < 5) f xs h)) (fields_tested xs (All-tail (λ g. g < 5) f xs h))

missing_true : (f : ℕ) (xs : List ℕ) → list_any (nat_eq f) xs ≡ false → IsMissing f xs
missing_true f [] h = tt
missing_true f (g ∷ xs) h =
    let p = or_parts (nat_eq f g) (list_any (nat_eq f) xs) h in
    ((λ e. eqb-false f g p.0 (sym e)), missing_true f xs p.1)

missing_tested : (f : ℕ) (xs : List ℕ) → IsMissing f xs → list_any (nat_eq f) xs ≡ false
missing_tested f [] h = refl
missing_tested f (g ∷ xs) h = or_from (nat_eq f g) (list_any (nat_eq f) xs) (ne_eqb f g (λ e. h.0 (sym e))) (missing_tested f xs h.1)

distinct_true : (xs : List ℕ) → are_distinct xs ≡ true → AreDistinct xs
distinct_true [] h = tt
distinct_true (f ∷ xs) h =
    let p = and_parts (not (list_any (nat_eq f) xs)) (are_distinct xs) h in
    (missing_true f xs (not-true (list_any (nat_eq f) xs) p.0), distinct_true xs p.1)

distinct_tested : (xs : List ℕ) → AreDistinct xs → are_distinct xs ≡ true
distinct_tested [] h = refl
distinct_tested (f ∷ xs) h =
    and_from (not (list_any (nat_eq f) xs)) (are_distinct xs) (not_from_false (list_any (nat_eq f) xs) (missing_tested f xs h.0)) (distinct_tested xs h.1)

-- what the test of an order shows
pub passed : (xs : List ℕ) → length xs ≡ 5 → is_order xs ≡ true → IsOrder xs
passed xs five h =
    let p = and_parts (are_fields xs) (are_distinct xs) h in record { five = five; fields = fields_true xs p.0; distinct = distinct_true xs p.1 }

pub failed : (xs : List ℕ) → is_order xs ≡ false → IsOrder xs → ⊥
failed xs h is =
    let e : true ≡ false = sym (and_from (are_fields xs) (are_distinct xs) (fields_tested xs is.fields) (distinct_tested xs is.distinct)) ∙ h in cc

pub stated_is_order : IsOrder stated
stated_is_order = passed stated refl refl

-- what the fields weigh together, and one of them where it is among them
abbrev pub weight_of : (ℕ → ℕ) → List ℕ → ℕ
weight_of w [] = 0
weight_of w (f ∷ fields) = w f + weight_of w fields

abbrev share : ℕ → ℕ → List ℕ → ℕ
share w f [] = 0
share w f (g ∷ fields) = cond (nat_eq f g) w (share w f fields)

few_step : (t : Bool) (w n : ℕ) → n ≤ w → cond t w n ≤ w
few_step true w n h = omega arith
few_step false w n h = h

few : (w f : ℕ) (fields : List ℕ) → share w f fields ≤ w
few w f [] = omega arith
few w f (g ∷ fields) = few_step (nat_eq f g) w (share w f fields) (few w f fields)

none : (w f : ℕ) (fields : List ℕ) → IsMissing f fields → share w f fields ≡ 0
none w f [] m = refl
none w f (g ∷ fields) m = elim (eqb_tells f g) [
  | inl t ↦ absurd (m.0 (sym t.1))
  | inr t ↦ ap (λ b. cond b w (share w f fields)) t.0 ∙ none w f fields m.1
]

abbrev shares : (ℕ → ℕ) → List ℕ → ℕ
shares w fields = share (w 0) 0 fields + share (w 1) 1 fields + share (w 2) 2 fields + share (w 3) 3 fields + share (w 4) 4 fields

one_more : (w : ℕ → ℕ) (f : ℕ) (fields : List ℕ) → f < 5 → IsMissing f fields → weight_of w fields ≡ shares w fields → w f + weight_of w fields ≡ shares w (f ∷ fields)
one_more w zero fields small m h = omega (arith, h, none (w 0) 0 fields m)
one_more w (suc zero) fields small m h = omega (arith, h, none (w 1) 1 fields m)
one_more w (suc (suc zero)) fields small m h = omega (arith, h, none (w 2) 2 fields m)
one_more w (suc (suc (suc zero))) fields small m h = omega (arith, h, none (w 3) 3 fields m)
one_more w (suc (suc (suc (suc zero)))) fields small m h = omega (arith, h, none (w 4) 4 fields m)
one_more w (suc (suc (suc (suc (suc f))))) fields small m h = absurd (omega (arith, small))

counted : (w : ℕ → ℕ) (fields : List ℕ) → All (λ f. f < 5) fields → AreDistinct fields → weight_of w fields ≡ shares w fields
counted w [] all d = refl
counted w (f ∷ fields) all d =
    one_more w f fields (All-head (λ g. g < 5) f fields all) d.0 (counted w fields (All-tail (λ g. g < 5) f fields all) d.1)

-- together they weigh at most what the five do
pub weighs : (w : ℕ → ℕ) (fields : List ℕ) → All (λ f. f < 5) fields → AreDistinct fields → weight_of w fields ≤ w 0 + w 1 + w 2 + w 3 + w 4
weighs w fields all d =
    omega (arith, counted w fields all d, few (w 0) 0 fields, few (w 1) 1 fields, few (w 2) 2 fields, few (w 3) 3 fields, few (w 4) 4 fields)

has_one : (f : ℕ) (fields : List ℕ) → 1 ≤ share 1 f fields → Has f fields
has_one f [] h = absurd (omega (arith, h))
has_one f (g ∷ fields) h = elim (eqb_tells f g) [
  | inl t ↦ inl (sym t.1)
  | inr t ↦ inr (has_one f fields (omega (arith, h, ap (λ b. cond b 1 (share 1 f fields)) t.0)))
]

length_weight : (fields : List ℕ) → length fields ≡ weight_of (λ f. 1) fields
length_weight [] = refl
length_weight (f ∷ fields) = omega (arith, length_weight fields)

has_by : (order : List ℕ) (f : ℕ) → 5 ≡ share 1 0 order + share 1 1 order + share 1 2 order + share 1 3 order + share 1 4 order →
    share 1 0 order ≤ 1 → share 1 1 order ≤ 1 → share 1 2 order ≤ 1 → share 1 3 order ≤ 1 → share 1 4 order ≤ 1 → f < 5 → Has f order
has_by order zero sum f0 f1 f2 f3 f4 small = has_one 0 order (omega (arith, sum, f0, f1, f2, f3, f4))
has_by order (suc zero) sum f0 f1 f2 f3 f4 small = has_one 1 order (omega (arith, sum, f0, f1, f2, f3, f4))
has_by order (suc (suc zero)) sum f0 f1 f2 f3 f4 small = has_one 2 order (omega (arith, sum, f0, f1, f2, f3, f4))
has_by order (suc (suc (suc zero))) sum f0 f1 f2 f3 f4 small = has_one 3 order (omega (arith, sum, f0, f1, f2, f3, f4))
has_by order (suc (suc (suc (suc zero)))) sum f0 f1 f2 f3 f4 small = has_one 4 order (omega (arith, sum, f0, f1, f2, f3, f4))
has_by order (suc (suc (suc (suc (suc f))))) sum f0 f1 f2 f3 f4 small = absurd (omega (arith, small))

-- an order has each of the five fields
pub has_each : (order : List ℕ) (f : ℕ) → IsOrder order → f < 5 → Has f order
has_each order f is small =
    let sum : 5 ≡ share 1 0 order + share 1 1 order + share 1 2 order + share 1 3 order + share 1 4 order =
    sym is.five ∙ length_weight order ∙ counted (λ g. 1) order is.fields is.distinct in
    has_by order f sum (few 1 0 order) (few 1 1 order) (few 1 2 order) (few 1 3 order) (few 1 4 order) small

-- whether something holds of each of the fields
abbrev pub of_all : (ℕ → Bool) → List ℕ → Bool
of_all p [] = true
of_all p (f ∷ level) = p f && of_all p level

holds_among : (p : ℕ → Bool) (level : List ℕ) (f : ℕ) → Has f level → of_all p level ≡ true → p f ≡ true
holds_among p [] f h a = absurd h
holds_among p (g ∷ level) f (inl e) a = subst (λ k. p k ≡ true) e (and_parts (p g) (of_all p level) a).0
holds_among p (g ∷ level) f (inr h) a = holds_among p level f h (and_parts (p g) (of_all p level) a).1

holds_of_all : (p : ℕ → Bool) (level : List ℕ) → All (λ f. f < 5) level → ((f : ℕ) → f < 5 → p f ≡ true) → of_all p level ≡ true
holds_of_all p [] all h = refl
holds_of_all p (f ∷ level) all h =
    and_from (p f) (of_all p level) (h f (All-head (λ g. g < 5) f level all)) (holds_of_all p level (All-tail (λ g. g < 5) f level all) h)

same_by : (a b : Bool) → (a ≡ true → b ≡ true) → (b ≡ true → a ≡ true) → a ≡ b
same_by true b g h = sym (g refl)
same_by false true g h = h refl
same_by false false g h = refl

-- what holds of each field in one order does in any
pub any_order : (p : ℕ → Bool) (order : List ℕ) → IsOrder order → of_all p order ≡ of_all p stated
any_order p order o =
    same_by (of_all p order) (of_all p stated)
    (λ a. holds_of_all p stated stated_is_order.fields (λ f five. holds_among p order f (has_each order f o five) a))
    (λ a. holds_of_all p order o.fields (λ f five. holds_among p stated f (has_each stated f stated_is_order five) a))

pub place_of_field : (f : ℕ) → f < 5 → slice_index stated f ≡ f
place_of_field zero h = refl
place_of_field (suc zero) h = refl
place_of_field (suc (suc zero)) h = refl
place_of_field (suc (suc (suc zero))) h = refl
place_of_field (suc (suc (suc (suc zero)))) h = refl
place_of_field (suc (suc (suc (suc (suc f))))) h = absurd (omega (arith, h))

-- no field has a value above 32 bits
pub field_few : (f : ℕ) → f < 5 → greatest_of f < 2 ^ 32
field_few zero h = omega arith
field_few (suc zero) h = omega arith
field_few (suc (suc zero)) h = omega arith
field_few (suc (suc (suc zero))) h = omega arith
field_few (suc (suc (suc (suc zero)))) h = omega arith
field_few (suc (suc (suc (suc (suc n))))) h = absurd (omega (arith, h))

value_at : (fs values : List ℕ) (k : ℕ) → k < length fs → AreValues fs values → slice_index values k < 2 ^ width (slice_index fs k)
value_at [] values k less h = absurd (omega (arith, less))
value_at (f ∷ fs) [] k less h = absurd h
value_at (f ∷ fs) (v ∷ values) zero less h = h.0
value_at (f ∷ fs) (v ∷ values) (suc k) less h = value_at fs values k (omega (arith, less)) h.1

-- the value of a field in a header
pub value_of : (header : List ℕ) (f : ℕ) → f < 5 → IsHeader header → slice_index header f < 2 ^ width f
value_of header f five h = subst (λ k. slice_index header f < 2 ^ width k) (place_of_field f five) (value_at stated header f (omega (arith, five)) h)

-- in the stated order a header's values are the header
pub picked_stated : (values : List ℕ) → IsHeader values → picked stated values ≡ values
picked_stated [] h = absurd h
picked_stated (a ∷ []) h = absurd h.1
picked_stated (a ∷ b ∷ []) h = absurd h.1.1
picked_stated (a ∷ b ∷ c ∷ []) h = absurd h.1.1.1
picked_stated (a ∷ b ∷ c ∷ d ∷ []) h = absurd h.1.1.1.1
picked_stated (a ∷ b ∷ c ∷ d ∷ e ∷ []) h = refl
picked_stated (a ∷ b ∷ c ∷ d ∷ e ∷ f ∷ more) h = absurd h.1.1.1.1.1

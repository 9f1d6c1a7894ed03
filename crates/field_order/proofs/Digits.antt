-- The digits of an order, and those without one of its fields.
use Rattle.std.proofs.Common.{◌≡◌, ◌≢◌, ◌∷◌, ℕ, zero, suc, List, [], ◌+◌, ◌-◌, ◌*◌, ◌/◌, ◌%◌, ◌<◌, ◌≤◌, ◌^◌, length, ap, arith, refl, sym, ◌∙◌, subst, inl, inr}
use Rattle.std.specs.List.{All}
use Rattle.std.proofs.lemmas.List.Elements.{All-nil, All-cons, All-head, All-tail}
use Rattle.node_store.specs.Levels.{IsLevel}
use Rattle.field_boxes.specs.Orders.{AreDistinct, Has}
use Rattle.field_order.specs.Order.{place_of}
use Rattle.field_order.specs.Fronts.{without}
use Rattle.field_order.specs.Worth.{IsRearranged, digits}
use Rattle.field_order.proofs.Places.{small}
use Rattle.field_order.proofs.Rearranged.{place_digits}
use Rattle.field_order.proofs.Without as left

five_pos : (k : ℕ) → 0 < 5 ^ k
five_pos zero = omega arith
five_pos (suc k) = let i = five_pos k in let e : 5 ^ suc k ≡ 5 * 5 ^ k = grind arith in omega (arith, i, e)

five_up : (m k n : ℕ) → n ≡ k + m → 5 ^ m ≤ 5 ^ n
five_up m zero n is =
    let same : n ≡ m = omega (arith, is) in
    let e : 5 ^ n ≡ 5 ^ m = ap (λ j. 5 ^ j) same in
    omega (arith, e)
five_up m (suc k) n is =
    let i = five_up m k (k + m) refl in
    let same : n ≡ suc (k + m) = omega (arith, is) in
    let e : 5 ^ n ≡ 5 * 5 ^ (k + m) = ap (λ j. 5 ^ j) same ∙ (let next : 5 ^ suc (k + m) ≡ 5 * 5 ^ (k + m) = grind arith in next) in
    omega (arith, i, e)

digits_long : (k n : ℕ) → length (digits k n) ≡ k
digits_long zero n = refl
digits_long (suc k) n = ap suc (digits_long k (n % 5 ^ k))

-- the number of digits is what they are the place of
digits_place : (k n : ℕ) → n < 5 ^ k → place_of (digits k n) ≡ n
digits_place zero n less = omega (arith, less)
digits_place (suc k) n less =
    let some = five_pos k in
    let low : n % 5 ^ k < 5 ^ k = grind (arith, some) in
    let both : n / 5 ^ k * 5 ^ k + n % 5 ^ k ≡ n = grind (arith, some) in
    ap (λ j. n / 5 ^ k * 5 ^ j + place_of (digits k (n % 5 ^ k))) (digits_long k (n % 5 ^ k))
    ∙ ap (λ m. n / 5 ^ k * 5 ^ k + m) (digits_place k (n % 5 ^ k) low)
    ∙ both

pub digits_parts : (count order unit : ℕ) → unit ≡ 5 ^ (count - 1) → 0 < count → digits count order ≡ order / unit ∷ digits (count - 1) (order % unit)
digits_parts zero order unit is some = absurd (omega (arith, some))
digits_parts (suc k) order unit is some =
    let n : k ≡ suc k - 1 = omega arith in
    let e : 5 ^ k ≡ unit = ap (λ m. 5 ^ m) n ∙ sym is in
    ap (λ u. order / u ∷ digits k (order % u)) e ∙ ap (λ m. order / unit ∷ digits m (order % unit)) n

pub some_digit : (f count order : ℕ) → Has f (digits count order) → 0 < count
some_digit f zero order has = absurd has
some_digit f (suc k) order has = omega arith

-- what holds of all holds without one
all_without : (P : ℕ → Type 0) (f : ℕ) (level : List ℕ) → All P level → All P (without f level)
all_without P f [] all = all
all_without P f (g ∷ level) all =
    let rest = all_without P f level (All-tail P g level all) in
    left.by_first (All P) f g level (λ gone. rest) (λ kept. All-cons P g (without f level) (All-head P g level all) rest)

-- one digit, and the others
module _ (count order unit f : ℕ) (unit_is : unit ≡ 5 ^ (count - 1)) (fields : All (λ g. g < 5) (digits count order)) (apart : AreDistinct (digits count order)) (has : Has f (digits count order)) where
  abbrev others : List ℕ
  others = digits (count - 1) (order % unit)

  parts : digits count order ≡ order / unit ∷ others
  parts = digits_parts count order unit unit_is (some_digit f count order has)

  pub fields_later : All (λ g. g < 5) others
  fields_later = All-tail (λ g. g < 5) (order / unit) others (subst (All (λ g. g < 5)) parts fields)

  apart_parts : AreDistinct (order / unit ∷ others)
  apart_parts = subst AreDistinct parts apart

  pub apart_later : AreDistinct others
  apart_later = apart_parts.1

  has_in : (g : ℕ) (level : List ℕ) → g ≢ f → Has f (g ∷ level) → Has f level
  has_in g level other (inl e) = absurd (other e)
  has_in g level other (inr h) = h

  pub has_later : order / unit ≢ f → Has f others
  has_later other = has_in (order / unit) others other (subst (Has f) parts has)

  pub first_out : order / unit ≡ f → order % unit ≡ place_of (without f (digits count order))
  first_out e =
      let some = five_pos (count - 1) in
      let low : order % unit < 5 ^ (count - 1) = subst (λ u. order % u < 5 ^ (count - 1)) (sym unit_is) (let r : order % 5 ^ (count - 1) < 5 ^ (count - 1) = grind (arith, some) in r) in
      let left_is : without f (digits count order) ≡ others = ap (without f) parts ∙ left.behind f (order / unit) others e apart_parts.0 in
      sym (digits_place (count - 1) (order % unit) low) ∙ ap place_of (sym left_is)

  pub later_out : order / unit ≢ f → (r : ℕ) → r ≡ place_of (without f others) → order / unit * (unit / 5) + r ≡ place_of (without f (digits count order))
  later_out other r is =
      let m = length (without f others) in
      let long = left.counted f others (has_later other) apart_later in
      let count_is : count - 1 ≡ suc m = sym (digits_long (count - 1) (order % unit)) ∙ long in
      let next : 5 ^ suc m ≡ 5 * 5 ^ m = grind arith in
      let unit_five : unit ≡ 5 * 5 ^ m = unit_is ∙ ap (λ n. 5 ^ n) count_is ∙ next in
      let fifth : unit / 5 ≡ 5 ^ m = omega (arith, unit_five) in
      ap (λ x. order / unit * x + r) fifth ∙ ap (λ x. order / unit * 5 ^ m + x) is ∙ sym (ap place_of (ap (without f) parts ∙ left.there f (order / unit) others other))

  pub room : count ≤ 5 → place_of (without f (digits count order)) < 3125
  room most =
      let low = small (without f (digits count order)) (all_without (λ g. g < 5) f (digits count order) fields) in
      let long = left.counted f (digits count order) has apart in
      let count_is = digits_long count order in
      let short : length (without f (digits count order)) ≤ 5 = omega (arith, long, count_is, most) in
      let top = five_up (length (without f (digits count order))) (5 - length (without f (digits count order))) 5 (omega (arith, short)) in
      let five : 5 ^ 5 ≡ 3125 = refl in
      omega (arith, low, top, five)

-- the fields of a level's orders are fields
pub order_small : (order level : List ℕ) → IsRearranged order level → AreDistinct level → IsLevel level → All (λ f. f < 5) order
order_small [] level r d is = All-nil (λ f. f < 5)
order_small (f ∷ order) level r d is =
    let p = left.parted f level r.0 d is in
    All-cons (λ g. g < 5) f order p.small (order_small order (without f level) r.1 (left.distinct f level d) p.others)

-- the order without the node's own field is one of the next level
module _ (g : ℕ) (rest : List ℕ) (order : ℕ) (is : IsLevel (g ∷ rest)) (d : AreDistinct (g ∷ rest)) (r : IsRearranged (digits (length (g ∷ rest)) order) (g ∷ rest)) where
  abbrev all_digits : List ℕ
  all_digits = digits (length (g ∷ rest)) order

  pub own_fields : All (λ f. f < 5) all_digits
  own_fields = order_small all_digits (g ∷ rest) r d is

  pub own_apart : AreDistinct all_digits
  own_apart = left.order_distinct all_digits (g ∷ rest) r

  pub own_has : Has g all_digits
  own_has = left.order_has g all_digits (g ∷ rest) r (inl refl)

  pub below_is : (below : ℕ) → below ≡ place_of (without g all_digits) → digits (length rest) below ≡ without g all_digits
  below_is below e =
      let long = left.counted g all_digits own_has own_apart in
      let all_long = digits_long (length (g ∷ rest)) order in
      let count : length rest ≡ length (without g all_digits) = omega (arith, long, all_long) in
      ap (λ k. digits k below) count ∙ ap (digits (length (without g all_digits))) e ∙ place_digits (without g all_digits) (all_without (λ f. f < 5) g all_digits own_fields)

  pub below_order : (below : ℕ) → below ≡ place_of (without g all_digits) → IsRearranged (digits (length rest) below) rest
  below_order below e =
      let same : without g (g ∷ rest) ≡ rest = left.behind g g rest refl d.0 in
      subst (λ o. IsRearranged o rest) (sym (below_is below e)) (subst (IsRearranged (without g all_digits)) same (left.order_without g all_digits (g ∷ rest) r))

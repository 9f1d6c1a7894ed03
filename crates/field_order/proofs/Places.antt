-- The places of orders rise as their digits do, and tell the digits.
use Rattle.std.proofs.Common.{◌≡◌, ◌∷◌, ℕ, suc, List, [], ◌<◌, ◌≤◌, ◌+◌, ◌*◌, ◌/◌, ◌%◌, ◌^◌, length, ap, arith, refl, sym, ◌∙◌, subst, inl, inr}
use Rattle.std.specs.Prelude.{Option, Some, None, IfSome, IsSome, ◌↔◌}
use Rattle.std.specs.List.{All}
use Rattle.std.proofs.lemmas.Nat.{mul-le}
use Rattle.std.proofs.lemmas.List.Elements.{All-head, All-tail}
use Rattle.field_boxes.specs.Fields.{ComesBefore}
use Rattle.field_order.specs.Order.{place_of}
use Rattle.field_boxes.specs.Orders.{IsOrder}

one_more : (x base : ℕ) → suc x * base ≡ x * base + base
one_more x base = grind arith

rises : (x y base : ℕ) → x < y → x * base + base ≤ y * base
rises x y base h = omega (arith, one_more x base, mul-le (suc x) base y base (omega (arith, h)) (omega arith))

pub small : (xs : List ℕ) → All (λ f. f < 5) xs → place_of xs < 5 ^ length xs
small [] all = omega arith
small (f ∷ xs) all =
    let a = rises f 5 (5 ^ length xs) (All-head (λ g. g < 5) f xs all) in
    let b = small xs (All-tail (λ g. g < 5) f xs all) in
    let c : 5 ^ suc (length xs) ≡ 5 * 5 ^ length xs = grind arith in
    let d : f * 5 ^ length xs + place_of xs < 5 ^ suc (length xs) = omega (arith, a, b, c) in
    d

-- what comes before by its digits has a lesser place
pub before : (xs ys : List ℕ) → All (λ f. f < 5) xs → length xs ≡ length ys → ComesBefore xs ys → place_of xs < place_of ys
before [] ys all same h = absurd h
before (x ∷ xs) [] all same h = absurd h
before (x ∷ xs) (y ∷ ys) all same (inl less) =
    let n : length xs ≡ length ys = omega (arith, same) in
    let a = rises x y (5 ^ length ys) less in
    let b : place_of xs < 5 ^ length ys = subst (λ k. place_of xs < 5 ^ k) n (small xs (All-tail (λ g. g < 5) x xs all)) in
    let c : x * 5 ^ length xs ≡ x * 5 ^ length ys = ap (λ k. x * 5 ^ k) n in
    omega (arith, a, b, c)
before (x ∷ xs) (y ∷ ys) all same (inr p) =
    let n : length xs ≡ length ys = omega (arith, same) in
    let a = before xs ys (All-tail (λ g. g < 5) x xs all) n p.1 in
    let c : x * 5 ^ length xs ≡ y * 5 ^ length ys = ap (λ k. x * 5 ^ k) n ∙ ap (λ k. k * 5 ^ length ys) p.0 in
    omega (arith, a, c)

pub before_place : (p q : List ℕ) → IsOrder p → IsOrder q → ComesBefore p q → place_of p < place_of q
before_place p q is are h = before p q is.fields (is.five ∙ sym are.five) h

pub last_place : (p : List ℕ) → IsOrder p → place_of p < 3125
last_place p is = subst (λ n. place_of p < 5 ^ n) is.five (small p is.fields)

-- the digits at a place
abbrev pub five_digits : ℕ → List ℕ
five_digits n = n / 625 % 5 ∷ n / 125 % 5 ∷ n / 25 % 5 ∷ n / 5 % 5 ∷ n % 5 ∷ []

abbrev number : ℕ → ℕ → ℕ → ℕ → ℕ → ℕ
number a b c d e = a * 625 + (b * 125 + (c * 25 + (d * 5 + e)))

number_is : (a b c d e : ℕ) → place_of (a ∷ b ∷ c ∷ d ∷ e ∷ []) ≡ number a b c d e
number_is a b c d e = omega arith

-- the place of the digits
pub place_at : (n : ℕ) → n < 3125 → place_of (five_digits n) ≡ n
place_at n h =
    let e = number_is (n / 625 % 5) (n / 125 % 5) (n / 25 % 5) (n / 5 % 5) (n % 5) in
    e ∙ omega (arith, h)

-- what the test of the digits at a place comes to
pub placed : (n : ℕ) (found : Option (List ℕ)) → n < 3125 → (IsSome found ↔ IsOrder (five_digits n)) → IfSome found (λ order. order ≡ five_digits n) →
    IfSome found (λ order. IsOrder order × (place_of order ≡ n))
placed n None h some same = tt
placed n (Some order) h some same = (subst IsOrder (sym same) (some.0 refl), ap place_of same ∙ place_at n h)

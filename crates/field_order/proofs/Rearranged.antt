-- Every order has the fields of every other one, and its digits tell it.
use Rattle.std.proofs.Common.{◌≡◌, ◌∷◌, ℕ, zero, suc, List, [], ◌+◌, ◌*◌, ◌/◌, ◌%◌, ◌<◌, ◌^◌, length, get_or, ap, arith, refl, sym, subst, ◌∙◌, true, false}
use Rattle.std.specs.Prelude.{Option, Some, None, IfSome, IsSome, ◌↔◌}
use Rattle.std.specs.List.{All}
use Rattle.std.proofs.lemmas.List.Elements.{All-from_recursion, All-tail}
use Rattle.field_boxes.specs.Orders.{IsMissing, AreDistinct, IsOrder, Has}
use Rattle.field_order.specs.Order.{place_of}
use Rattle.field_order.specs.Fronts.{without}
use Rattle.field_boxes.proofs.Orders.{passed, has_each}
use Rattle.field_order.specs.Worth.{IsRearranged, digits}
use Rattle.field_order.specs.Search.{usual}
use Rattle.field_order.proofs.Places.{five_digits, last_place, place_at, small}
use Rattle.field_order.proofs.Without.{has_other, counted, distinct}

all_other : (f : ℕ) (order level : List ℕ) → IsMissing f order → ((k : ℕ) (d : ℕ) → k < length order → Has (get_or order k d) level) → (k : ℕ) (d : ℕ) → k < length order → Has (get_or order k d) (without f level)
all_other f [] level m has k d less = absurd (omega (arith, less))
all_other f (g ∷ order) level m has zero d less = has_other g f level m.0 (has 0 d (omega arith))
all_other f (g ∷ order) level m has (suc k) d less = all_other f order level m.1 (λ i e low. has (suc i) e (omega (arith, low))) k d (omega (arith, less))

rearranges : (order level : List ℕ) → ((k : ℕ) (d : ℕ) → k < length order → Has (get_or order k d) level) → AreDistinct order → AreDistinct level → length order ≡ length level → IsRearranged order level
rearranges [] [] has d e long = refl
rearranges [] (g ∷ level) has d e long = absurd (omega (arith, long))
rearranges (f ∷ order) level has d e long =
    let here : Has f level = has 0 0 (omega arith) in
    let count = counted f level here e in (
      here,
      rearranges order (without f level) (all_other f order level d.0 (λ k c less. has (suc k) c (omega (arith, less)))) d.1 (distinct f level e) (omega (arith, long, count)),
    )

pub usual_order : IsOrder usual
usual_order = passed usual refl refl

pub rearranged : (order : List ℕ) → IsOrder order → IsRearranged order usual
rearranged order is =
    rearranges order usual (λ k d less. has_each usual (get_or order k d) usual_order (is.fields k d less)) is.distinct usual_order.distinct is.five

-- the digits of an order's place are the order
parts : (f base r : ℕ) → r < base → ((f * base + r) / base ≡ f) × ((f * base + r) % base ≡ r)
parts f base r less = (grind (arith, less), grind (arith, less))

pub place_digits : (order : List ℕ) → All (λ f. f < 5) order → digits (length order) (place_of order) ≡ order
place_digits [] all = refl
place_digits (f ∷ order) all =
    let low = small order (All-tail (λ g. g < 5) f order all) in
    let p = parts f (5 ^ length order) (place_of order) low in
    ap (λ g. g ∷ digits (length order) ((f * 5 ^ length order + place_of order) % 5 ^ length order)) p.0
    ∙ ap (λ n. f ∷ digits (length order) n) p.1
    ∙ ap (λ l. f ∷ l) (place_digits order (All-tail (λ g. g < 5) f order all))

-- the five digits at the place of an order are the order
digits_at : (p : List ℕ) (n : ℕ) → IsOrder p → place_of p ≡ n → five_digits n ≡ p
digits_at p n is at =
    let low = All-from_recursion (λ f. f < 5) (five_digits n) (omega arith, (omega arith, (omega arith, (omega arith, (omega arith, tt))))) in
    let same : place_of (five_digits n) ≡ place_of p = place_at n (subst (λ k. k < 3125) at (last_place p is)) ∙ sym at in
    sym (place_digits (five_digits n) low) ∙ ap (digits 5) same ∙ ap (λ k. digits k (place_of p)) (sym is.five) ∙ place_digits p is.fields

pub stands : (n : ℕ) (found : Option (List ℕ)) → (IsSome found ↔ IsOrder (five_digits n)) → IfSome found (λ order. order ≡ five_digits n) →
    (fields : List ℕ) → IsOrder fields → place_of fields ≡ n → found ≡ Some fields
stands n None some same fields is at = let e : false ≡ true = some.1 (subst IsOrder (sym (digits_at fields n is at)) is) in cc
stands n (Some order) some same fields is at = ap Some (same ∙ digits_at fields n is at)

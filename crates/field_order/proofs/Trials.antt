-- The best order of those that were tried, and one more.
use Rattle.std.proofs.Common.{◌≡◌, ℕ, ◌<◌, ◌≤◌, ◌+◌, List, arith, sym, subst, ◌∙◌, inl, inr}
use Rattle.std.specs.Prelude.{◌⊎◌, Option, Some, None}
use Rattle.std.proofs.lemmas.Bool.{cases_lt}
use Rattle.std.proofs.lemmas.Option.{none-some, same_Some}
use Rattle.field_boxes.specs.Headline.Classifier.{Rule}
use Rattle.table_compose.specs.Headline.LeastCost.{IsLeastCost}
use Rattle.table_compose.proofs.OneCost.{cost-unique}
use Rattle.field_order.specs.declared.best.Costed.{Costed}
use Rattle.field_order.specs.declared.worth.Worth.{Worth}
use Rattle.field_order.specs.declared.worth.Worth.TheVariants.{Is, Above}
use Rattle.field_order.specs.Order.{place_of}
use Rattle.field_boxes.specs.Orders.{IsOrder}
use Rattle.field_order.specs.Best.{IsBestOrder}
use Rattle.field_order.specs.Search.{IsBestSoFar, IsTried}
use Rattle.field_order.specs.Worth.{Settles}
use Rattle.field_order.proofs.Places.{before_place, last_place}

-- what stands at the place
abbrev pub StandsAt : ℕ → Option (List ℕ) → Type 0
StandsAt place found = (other : List ℕ) → IsOrder other → place_of other ≡ place → found ≡ Some other

-- what was found of an order's cost holds of the rules
abbrev pub Holds : List (Rule (List ℕ)) → List ℕ → Worth → Type 0
Holds rules order (Is n) = IsLeastCost order rules n
Holds rules order (Above n) = (m : ℕ) → IsLeastCost order rules m → n + 1 ≤ m

module _ (rules : List (Rule (List ℕ))) where
  -- an order of this place or of one below it
  cases_place : (place : ℕ) (other : List ℕ) (P : Type 0) → place_of other < place + 1 → (place_of other < place → P) → (place_of other ≡ place → P) → P
  cases_place place other P low below at = elim (cases_lt (place_of other) place) [ inl p ↦ below p | inr p ↦ at (omega (arith, low, p)) ]

  -- no order stands at the place
  pub passed : (tried : ℕ) (best : List ℕ) (place cost : ℕ) (found : Option (List ℕ)) → found ≡ None → StandsAt tried found → IsBestSoFar rules tried best place cost →
      IsBestSoFar rules (tried + 1) best place cost
  passed tried best place cost found none stands b =
      let no : (other : List ℕ) → IsOrder other → place_of other ≡ tried → ⊥ = λ other are p. none-some other (sym none ∙ stands other are p) in record {
        is = b.is;
        at = b.at;
        costs = b.costs;
        least = λ other n are low c. cases_place tried other (cost ≤ n) low (λ p. b.least other n are p c) (λ p. absurd (no other are p));
        first = λ other n are low earlier c. cases_place tried other (cost < n) low (λ p. b.first other n are p earlier c) (λ p. absurd (no other are p));
      }

  module _ (tried : ℕ) (best : List ℕ) (place cost : ℕ) (b : IsBestSoFar rules tried best place cost) (found : Option (List ℕ)) (order : List ℕ) (here : found ≡ Some order) (stands : StandsAt tried found)
      (is : IsOrder order) (at : place_of order ≡ tried) where
    same_order : (other : List ℕ) → IsOrder other → place_of other ≡ tried → order ≡ other
    same_order other are p = same_Some order other (sym here ∙ stands other are p)

    same_cost : (n m : ℕ) (other : List ℕ) → IsLeastCost order rules n → IsOrder other → place_of other ≡ tried → IsLeastCost other rules m → n ≡ m
    same_cost n m other costs are p c = cost-unique other rules n m (subst (λ o. IsLeastCost o rules n) (same_order other are p) costs) c

    -- the order at the place is better
    pub taken : (n : ℕ) → IsLeastCost order rules n → (n < cost) ⊎ ((n ≡ cost) × (tried < place)) → IsBestSoFar rules (tried + 1) order tried n
    taken n costs better =
        let less : n ≤ cost = elim better [ inl p ↦ omega (arith, p) | inr p ↦ omega (arith, p.0) ] in record {
          is = is;
          at = at;
          costs = costs;
          least = λ other m are low c. cases_place tried other (n ≤ m) low (λ p. let h = b.least other m are p c in omega (arith, less, h)) (λ p. let h = same_cost n m other costs are p c in omega (arith, h));
          first = λ other m are low earlier c. elim better [
            | inl p ↦ let h = b.least other m are earlier c in omega (arith, p, h)
            | inr p ↦ let h = b.first other m are earlier (omega (arith, earlier, p.1)) c in omega (arith, p.0, h)
          ];
        }

    -- it isn't
    pub left : ((m : ℕ) → IsLeastCost order rules m → (cost < m) ⊎ ((cost ≡ m) × (place ≤ tried))) → IsBestSoFar rules (tried + 1) best place cost
    left worse =
        let mine : (other : List ℕ) (m : ℕ) → IsOrder other → place_of other ≡ tried → IsLeastCost other rules m → (cost < m) ⊎ ((cost ≡ m) × (place ≤ tried)) =
        λ other m are p c. worse m (subst (λ o. IsLeastCost o rules m) (sym (same_order other are p)) c) in record {
          is = b.is;
          at = b.at;
          costs = b.costs;
          least = λ other m are low c. cases_place tried other (cost ≤ m) low (λ p. b.least other m are p c)
              (λ p. elim (mine other m are p c) [ inl h ↦ omega (arith, h) | inr h ↦ omega (arith, h.0) ]);
          first = λ other m are low earlier c. cases_place tried other (cost < m) low (λ p. b.first other m are p earlier c)
              (λ p. elim (mine other m are p c) [ inl h ↦ h | inr h ↦ absurd (omega (arith, earlier, p, h.1)) ]);
        }

  -- the better one of the best so far and the order at the place
  pub chosen : (tried : ℕ) (best next : Costed) (found : Option (List ℕ)) (order : List ℕ) (worth : Worth) → IsBestSoFar rules tried best.order best.place best.cost → found ≡ Some order →
      StandsAt tried found → IsOrder order → place_of order ≡ tried → Holds rules order worth → Settles best.cost worth → IsTried best order tried worth next →
      IsBestSoFar rules (tried + 1) next.order next.place next.cost
  chosen tried best next found order (Above n) b here stands is at holds settles kept =
      subst (λ (r : Costed). IsBestSoFar rules (tried + 1) r.order r.place r.cost) (sym kept)
      (left tried best.order best.place best.cost b found order here stands is at (λ m c. let h = holds m c in inl (omega (arith, h, settles))))
  chosen tried best next found order (Is n) b here stands is at holds settles (inl kept) =
      subst (λ (r : Costed). IsBestSoFar rules (tried + 1) r.order r.place r.cost) (sym kept.0)
      (left tried best.order best.place best.cost b found order here stands is at
      (λ m c. subst (λ k. (best.cost < k) ⊎ ((best.cost ≡ k) × (best.place ≤ tried))) (cost-unique order rules n m holds c) kept.1))
  chosen tried best next found order (Is n) b here stands is at holds settles (inr new) =
      subst (λ o. IsBestSoFar rules (tried + 1) o next.place next.cost) (sym new.0)
      (subst (λ p. IsBestSoFar rules (tried + 1) order p next.cost) (sym new.1)
      (subst (λ c. IsBestSoFar rules (tried + 1) order tried c) (sym new.2) (taken tried best.order best.place best.cost b found order here stands is at n holds new.3)))

  -- nothing is tried yet
  pub begun : (order : List ℕ) (place cost : ℕ) → IsOrder order → place_of order ≡ place → IsLeastCost order rules cost → IsBestSoFar rules 0 order place cost
  begun order place cost is at costs = record {
    is = is;
    at = at;
    costs = costs;
    least = λ other n are low c. absurd (omega (arith, low));
    first = λ other n are low earlier c. absurd (omega (arith, low));
  }

  -- all are tried
  pub done : (order : List ℕ) (place cost : ℕ) → IsBestSoFar rules 3125 order place cost → IsBestOrder rules order cost
  done order place cost b = record {
    is = b.is;
    costs = b.costs;
    least = λ other n are c. b.least other n are (last_place other are) c;
    first = λ other n are earlier c. b.first other n are (last_place other are) (let low = before_place other order are b.is earlier in omega (arith, low, b.at)) c;
  }

-- The best order of those that were tried.
use Rattle.std.specs.Prelude.{◌≡◌, ℕ, ◌<◌, ◌≤◌, ◌⊎◌, List, [], ◌∷◌, Option}
use Rattle.field_boxes.specs.Headline.Classifier.{Rule}
use Rattle.node_store.specs.Diagram.{Node}
use Rattle.table_compose.specs.Headline.LeastCost.{IsLeastCost}
use Rattle.field_order.specs.Order.{place_of}
use Rattle.field_boxes.specs.Orders.{IsOrder}
use Rattle.field_order.specs.Worth.{AreApart, DecideBy, answer_by}
use Rattle.field_order.specs.declared.best.Costed.{Costed}
use Rattle.field_order.specs.declared.worth.Worth.{Worth}
use Rattle.field_order.specs.declared.worth.Worth.TheVariants.{Is, Above}

-- the order in which most lists cost little
abbrev pub usual : List ℕ
usual = 4 ∷ 1 ∷ 0 ∷ 3 ∷ 2 ∷ []

-- the rules decide what the node answers, by names that tell its answers apart
pub record DecidesAs (nodes : List Node) (level : List ℕ) (root : ℕ) (rules : List (Rule (List ℕ))) : Type 0 where
  pub name : ℕ → Option (List ℕ)
  pub apart : AreApart (answer_by nodes level root) name
  pub decide : DecideBy level (answer_by nodes level root) name rules

-- the rules cost so much in this order, no less in any below a place, and more in each of those that come before it
pub record IsBestSoFar (rules : List (Rule (List ℕ))) (tried : ℕ) (order : List ℕ) (place cost : ℕ) : Type 0 where
  pub is : IsOrder order
  pub at : place_of order ≡ place
  pub costs : IsLeastCost order rules cost
  pub least : (other : List ℕ) (n : ℕ) → IsOrder other → place_of other < tried → IsLeastCost other rules n → cost ≤ n
  pub first : (other : List ℕ) (n : ℕ) → IsOrder other → place_of other < tried → place_of other < place → IsLeastCost other rules n → cost < n

-- the order is taken where it costs less than the best one, or as much and comes before it
abbrev pub IsTried : Costed → List ℕ → ℕ → Worth → Costed → Type 0
IsTried best order place (Above n) next = next ≡ best
IsTried best order place (Is n) next =
    ((next ≡ best) × ((best.cost < n) ⊎ ((best.cost ≡ n) × (best.place ≤ place))))
    ⊎ ((next.order ≡ order) × (next.place ≡ place) × (next.cost ≡ n) × ((n < best.cost) ⊎ ((n ≡ best.cost) × (place < best.place))))

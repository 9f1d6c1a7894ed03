-- The best order of the fields for a rule list.
use Rattle.std.specs.Prelude.{ℕ, ◌<◌, ◌≤◌, List, All}
use Rattle.field_boxes.specs.declared.rule.Rule as code
use Rattle.field_boxes.specs.Headline.Classifier.{Rule}
use Rattle.field_boxes.specs.Fields.{ComesBefore}
use Rattle.field_boxes.specs.NamedRules.{IsNumberedBy}
use Rattle.field_boxes.specs.Names.{AreDistinct}
use Rattle.table_compose.specs.Headline.LeastCost.{IsLeastCost}
use Rattle.field_boxes.specs.Orders.{IsOrder}

-- each rule decides the number of one of these names, and no two names are the same
pub record AreNamesOf (rules : List code.Rule) (names : List (List ℕ)) : Type 0 where
  pub numbered : All (IsNumberedBy names) rules
  pub distinct : AreDistinct names

-- the rules cost so much in this order and no less in any, and more in each order that comes before it
pub record IsBestOrder (rules : List (Rule (List ℕ))) (order : List ℕ) (cost : ℕ) : Type 0 where
  pub is : IsOrder order
  pub costs : IsLeastCost order rules cost
  pub least : (other : List ℕ) (n : ℕ) → IsOrder other → IsLeastCost other rules n → cost ≤ n
  pub first : (other : List ℕ) (n : ℕ) → IsOrder other → ComesBefore other order → IsLeastCost other rules n → cost < n

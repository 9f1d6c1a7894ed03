-- What functions of the fields' values cost, and what is known of it.
use Rattle.std.specs.Prelude.{◌≡◌, ℕ, zero, suc, ◌+◌, ◌<◌, ◌≤◌, ◌^◌, ◌/◌, ◌%◌, Bool, ◌&&◌, nat_eq, List, [], ◌∷◌, All, length, Option, Some, None, map, sum}
use Rattle.std.specs.List.{AllZip}
use Rattle.std.specs.Global.{Vec}
use Rattle.std.specs.HashMap.{get}
use Rattle.field_boxes.specs.Headline.Classifier.{Rule, source}
use Rattle.node_store.specs.declared.edge.NodeId.{NodeId}
use Rattle.node_store.specs.declared.edge.Edge.{Edge}
use Rattle.node_store.specs.Levels.{bits_of}
use Rattle.node_store.specs.Diagram.{Node, level_of, answer}
use Rattle.node_store.specs.Store.{Grows}
use Rattle.table_compose.specs.Headline.LeastCost.{IsLeastCost}
use Rattle.table_compose.specs.Labels.{children_of}
use Rattle.field_boxes.specs.Orders.{AreDistinct, Has}
use Rattle.field_order.specs.Fronts.{Fits, without, IsSample}
use Rattle.field_order.specs.declared.worth.Worth.{Worth}
use Rattle.field_order.specs.declared.worth.Worth.TheVariants.{Is, Above}
use Rattle.field_order.specs.declared.worth.Valued.{Valued}
use Rattle.field_order.specs.declared.worth.Worths.{Worths}

-- the fields of the level in another order
abbrev pub IsRearranged : List ℕ → List ℕ → Type 0
IsRearranged [] level = level ≡ []
IsRearranged (f ∷ order) level = Has f level × IsRearranged order (without f level)

-- so many digits to the base 5, the highest first
abbrev pub digits : ℕ → ℕ → List ℕ
digits zero n = []
digits (suc k) n = n / 5 ^ k ∷ digits k (n % 5 ^ k)

-- different answers of a function of the fields' values have different names, of which none is one
abbrev pub AreApart : ((ℕ → ℕ) → ℕ) → (ℕ → Option (List ℕ)) → Type 0
AreApart g name = (h k : ℕ → ℕ) → Fits h → Fits k → name (g h) ≡ name (g k) → g h ≡ g k

-- the rules, read in the order, decide what the function answers, by name
abbrev pub DecideBy : List ℕ → ((ℕ → ℕ) → ℕ) → (ℕ → Option (List ℕ)) → List (Rule (List ℕ)) → Type 0
DecideBy order g name R = (h : ℕ → ℕ) → Fits h → source order (map h order) R ≡ name (g h)

-- n is the least cost of every rule list that decides as the function answers
abbrev pub IsCostBy : List ℕ → ((ℕ → ℕ) → ℕ) → ℕ → Type 0
IsCostBy order g n = (name : ℕ → Option (List ℕ)) (R : List (Rule (List ℕ))) → AreApart g name → DecideBy order g name R → IsLeastCost order R n

-- no such rule list has a least cost below n
abbrev pub IsAtLeast : List ℕ → ((ℕ → ℕ) → ℕ) → ℕ → Type 0
IsAtLeast order g n = (name : ℕ → Option (List ℕ)) (R : List (Rule (List ℕ))) → AreApart g name → DecideBy order g name R → (m : ℕ) → IsLeastCost order R m → n ≤ m

-- what the node answers where the fields have these values
abbrev pub answer_by : List Node → List ℕ → ℕ → (ℕ → ℕ) → ℕ
answer_by nodes level id h = answer nodes id (map h level)

-- n is the cost of the node in the order, and at most one entry for each header of its fields
pub record IsExact (nodes : List Node) (order : List ℕ) (id n : ℕ) : Type 0 where
  pub least : IsCostBy order (answer_by nodes (level_of nodes id) id) n
  pub few : n ≤ 2 ^ bits_of (level_of nodes id)

-- what is known holds of the node in the order
abbrev pub IsWorth : List Node → List ℕ → ℕ → Worth → Type 0
IsWorth nodes order id (Is n) = IsExact nodes order id n
IsWorth nodes order id (Above n) = IsAtLeast order (answer_by nodes (level_of nodes id) id) (n + 1)

-- the node costs more than the cap in the order
abbrev pub IsAbove : List Node → List ℕ → ℕ → NodeId → Type 0
IsAbove nodes order cap id = IsWorth nodes order id.0 (Above cap)

-- it settles whether the cost is above the cap, and what it is where it isn't
abbrev pub Settles : ℕ → Worth → Type 0
Settles cap (Is n) = Unit {0}
Settles cap (Above n) = cap ≤ n

-- the level's fields differ, it is the node's, and the order has the same fields
pub record AreFields (nodes : List Node) (level order : List ℕ) (id : ℕ) : Type 0 where
  pub at : level_of nodes id ≡ level
  pub apart : AreDistinct level
  pub rearranged : IsRearranged order level

-- the costs of the nodes in turn, or no less than these together, which are above the cap
abbrev pub AreWeights : List Node → List ℕ → List NodeId → ℕ → Option (Vec ℕ) → Type 0
AreWeights nodes order ids cap None = (lows : List ℕ) × AllZip (λ c n. IsAtLeast order (answer_by nodes (level_of nodes c.0) c.0) n) ids lows × (cap < sum lows)
AreWeights nodes order ids cap (Some weights) = AllZip (λ c n. IsExact nodes order c.0 n) ids weights.items

-- the same node and order
abbrev pub same_valued : Valued → Valued → Bool
same_valued p q = nat_eq p.id.0 q.id.0 && nat_eq p.order q.order

-- what is kept of a node of the store holds in the order of which the key has the digits
pub record IsKept (nodes : List Node) (key : Valued) (worth : Worth) : Type 0 where
  pub number : key.id.0 < length nodes
  pub worth_is : IsWorth nodes (digits (length (level_of nodes key.id.0)) key.order) key.id.0 worth

-- all that is kept
abbrev pub AreWorths : List Node → Worths → Type 0
AreWorths nodes worths = (key : Valued) (worth : Worth) → get same_valued worths.known key ≡ Some worth → IsKept nodes key worth

-- parts at some values of the field cost more than the cap together: they were made when the old store had grown, and it grew on to the new one
pub record AreAbove (old new : List Node) (level : List ℕ) (f : ℕ) (edges : List Edge) (order : List ℕ) (cap : ℕ) : Type 0 where
  pub first : List Node
  pub made : List Node
  pub samples : List Edge
  pub begun : Grows old first
  pub grows : Grows made new
  pub are : All (IsSample first made level f edges) samples
  pub above : AreWeights new order (children_of samples) cap None

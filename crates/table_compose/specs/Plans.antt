-- What is worked out of each node: its least cost, and the cheapest prefix list of its field.
use Rattle.std.specs.Prelude.{◌≡◌, ℕ, ◌<◌, ◌≤◌, ◌^◌, ◌+◌, Bool, true, false, List, [], ◌∷◌, Some, All, length, slice_get, slice_index}
use Rattle.std.specs.Global.{Vec}
use Rattle.field_boxes.specs.Headline.Fields.{width}
use Rattle.node_store.specs.Edges.{child_of}
use Rattle.node_store.specs.Diagram.{Node, level_of, edges_of}
use Rattle.prefix_min.specs.declared.row.PrefixRow.{PrefixRow}
use Rattle.prefix_min.specs.PrefixList.{IsRight, weight}
use Rattle.prefix_min.specs.Order.{InOrder}
use Rattle.node_store.specs.Levels.{HasField, top_of, bits_of}
use Rattle.table_compose.specs.Diagrams.{IsCostOf}
use Rattle.table_compose.specs.declared.diagram_plans.Plans.{Plans}
use Rattle.table_compose.specs.declared.row.Row.{Row}
use Rattle.table_compose.specs.Rows.{rows_at}
use Rattle.table_compose.specs.Room.{IsPadded, IsLonger}

-- the node under the number is marked
abbrev pub IsMarked : List Bool → ℕ → Type 0
IsMarked marks id = slice_get marks id ≡ Some true

-- marked nodes from a number on lead to marked nodes
abbrev pub AreClosedFrom : List Node → ℕ → List Bool → Type 0
AreClosedFrom nodes low marks = (id : ℕ) → low ≤ id → IsMarked marks id → All (λ e. IsMarked marks e.to.0) (edges_of nodes id)

-- n is the least cost of every rule list that decides as the node answers, and at most one entry for each
-- header of its fields
pub record IsCosted (nodes : List Node) (id n : ℕ) : Type 0 where
  pub least : IsCostOf nodes (level_of nodes id) id n
  pub few : n ≤ 2 ^ bits_of (level_of nodes id)

-- a value of the node's field leads to the child
abbrev pub IsChild : List Node → ℕ → ℕ → Type 0
IsChild nodes id child = (v : ℕ) × (v ≤ top_of (level_of nodes id)) × (child_of (edges_of nodes id) v ≡ child)

-- the bits of a level's first field
abbrev pub width_of : List ℕ → ℕ
width_of [] = 0
width_of (f ∷ level) = width f

-- a prefix list of an inner node's field: the label of a row is the child to which the row's values lead
pub record IsListOf (nodes : List Node) (id : ℕ) (rows : List PrefixRow) : Type 0 where
  pub right : IsRight (width_of (level_of nodes id)) (child_of (edges_of nodes id)) rows
  pub order : InOrder rows
  pub children : All (λ r. IsChild nodes id r.label) rows

-- the list of an inner node, whose rows cost so much as their children do, and for a leaf one entry
pub record IsPlanned (nodes : List Node) (costs : List ℕ) (id : ℕ) (rows : List PrefixRow) (n : ℕ) : Type 0 where
  pub costed : IsCosted nodes id n
  pub list : HasField (level_of nodes id) → IsListOf nodes id rows
  pub sum : HasField (level_of nodes id) → weight costs rows ≡ n
  pub leaf : level_of nodes id ≡ [] → n ≡ 1

-- the node under the number is one of the store, and its cost and its list stand under its number
pub record IsKeptPlan (nodes : List Node) (costs : List ℕ) (lists : List (Vec Row)) (id : ℕ) : Type 0 where
  pub number : id < length nodes
  pub room : id < length costs
  pub listed : id < length lists
  pub planned : IsPlanned nodes costs id (rows_at lists id) (slice_index costs id)

-- what is kept are plans of nodes of this store, and of all to which their edges lead
pub record ArePlansOf (nodes : List Node) (plans : Plans) : Type 0 where
  pub closed : AreClosedFrom nodes 0 plans.known.items
  pub kept : (id : ℕ) → IsMarked plans.known.items id → IsKeptPlan nodes plans.costs.items plans.lists.items id

-- what was known is known, with its cost and its list
pub record KeepsPlans (old new : Plans) : Type 0 where
  pub known : (id : ℕ) → IsMarked old.known.items id → IsMarked new.known.items id
  pub costs : (id : ℕ) → IsMarked old.known.items id → slice_index new.costs.items id ≡ slice_index old.costs.items id
  pub lists : (id : ℕ) → IsMarked old.known.items id → rows_at new.lists.items id ≡ rows_at old.lists.items id

-- there is room under each number below so many
pub record HasRoom (plans : Plans) (count : ℕ) : Type 0 where
  pub known : count ≤ length plans.known.items
  pub costs : count ≤ length plans.costs.items
  pub lists : count ≤ length plans.lists.items
  pub places : count ≤ length plans.labels.children.places.items

-- more of the nodes below a number are known, and what was known stays
pub record LearnsBelow (nodes : List Node) (old new : Plans) (most : ℕ) : Type 0 where
  pub plans : ArePlansOf nodes new
  pub keeps : KeepsPlans old new
  pub above : (id : ℕ) → most ≤ id → slice_get new.known.items id ≡ slice_get old.known.items id
  pub room : (count : ℕ) → HasRoom old count → HasRoom new count

-- room was added for more, of which nothing is known
pub record HasMoreRoom (old new : Plans) : Type 0 where
  pub known : IsPadded false old.known.items new.known.items
  pub costs : IsPadded 0 old.costs.items new.costs.items
  pub lists : IsLonger old.lists.items new.lists.items

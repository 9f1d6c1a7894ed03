-- What is kept of what the nodes of a store cost.
use Rattle.std.specs.Prelude.{ℕ, ◌<◌, ◌≤◌, Bool, List, length, slice_index}
use Rattle.node_store.specs.Diagram.{Node}
use Rattle.table_compose.specs.Plans.{IsMarked, IsCosted}
use Rattle.table_compose.specs.declared.costs.Costs.{Costs}

-- the node is one of the store, and what it costs stands under its number
pub record IsKeptCost (nodes : List Node) (costs : List ℕ) (id : ℕ) : Type 0 where
  pub number : id < length nodes
  pub room : id < length costs
  pub costed : IsCosted nodes id (slice_index costs id)

-- what each marked node costs is kept
abbrev pub AreKept : List Node → List Bool → List ℕ → Type 0
AreKept nodes known costs = (id : ℕ) → IsMarked known id → IsKeptCost nodes costs id

-- what is kept are costs of nodes of this store
abbrev pub AreCostsOf : List Node → Costs → Type 0
AreCostsOf nodes costs = AreKept nodes costs.known.items costs.numbers.items

-- there is room under each number below so many
pub record HasRoom (costs : Costs) (count : ℕ) : Type 0 where
  pub known : count ≤ length costs.known.items
  pub numbers : count ≤ length costs.numbers.items
  pub places : count ≤ length costs.labels.children.places.items

-- more is known, and what was known is
pub record LearnsCosts (nodes : List Node) (old new : Costs) : Type 0 where
  pub costs : AreCostsOf nodes new
  pub earlier : (id : ℕ) → IsMarked old.known.items id → IsMarked new.known.items id
  pub room : (count : ℕ) → HasRoom old count → HasRoom new count

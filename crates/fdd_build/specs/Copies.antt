-- Nodes of one store that were copied into another.
use Rattle.std.specs.Prelude.{◌≡◌, ◌<◌, ℕ, List, length, Option, IfSome, slice_index_or}
use Rattle.field_boxes.specs.Headline.Fields.{AreValues}
use Rattle.node_store.specs.declared.edge.NodeId.{NodeId}
use Rattle.node_store.specs.declared.edge.Edge.{Edge}
use Rattle.node_store.specs.Diagram.{Node, level_of, answer}

-- a node of the other store stands at the level of a node of the one, and answers alike
pub record IsCopy (from nodes : List Node) (id copy : ℕ) : Type 0 where
  pub used : copy < length nodes
  pub level : level_of nodes copy ≡ level_of from id
  pub answers : (values : List ℕ) → AreValues (level_of from id) values → answer nodes copy values ≡ answer from id values

-- an edge ends where another ends, and leads to a copy
abbrev pub IsEdgeCopy : List Node → List Node → Edge → Edge → Type 0
IsEdgeCopy from nodes edge copy = (copy.hi ≡ edge.hi) × IsCopy from nodes edge.to.0 copy.to.0

-- what is kept under a node's number is a copy of the node
abbrev pub AreCopies : List Node → List Node → List (Option NodeId) → Type 0
AreCopies from nodes copies = (id : ℕ) (d : Option NodeId) → id < length copies → IfSome (slice_index_or copies id d) (λ copy. IsCopy from nodes id copy.0)

-- What the minimiser of a node's field is asked.
use Rattle.std.specs.Prelude.{◌≡◌, ℕ, List, All, map, slice_index}
use Rattle.node_store.specs.Levels.{HasField}
use Rattle.node_store.specs.declared.edge.NodeId.{NodeId}
use Rattle.node_store.specs.Diagram.{Node, level_of, edges_of}
use Rattle.node_store.specs.Store.{IsStore, IsInner}
use Rattle.prefix_min.specs.declared.piece.Piece.{Piece}
use Rattle.table_compose.specs.Labels.{children_of, ArePieces}
use Rattle.table_compose.specs.Plans.{IsCosted}

-- the node is an inner one, its labels are places of its children, and each weighs what its child costs
pub record AreInputs (nodes : List Node) (id : ℕ) (costs : List ℕ) (children : List NodeId) (pieces : List Piece) (weights : List ℕ) : Type 0 where
  pub store : IsStore nodes
  pub five : HasField (level_of nodes id)
  pub inner : IsInner nodes id (level_of nodes id) (edges_of nodes id)
  pub children_are : children ≡ children_of (edges_of nodes id)
  pub pieces_are : ArePieces (children_of (edges_of nodes id)) (edges_of nodes id) pieces
  pub weights_are : weights ≡ map (λ (c : NodeId). slice_index costs c.0) (children_of (edges_of nodes id))

-- what the nodes cost to which a node's edges lead stands under their numbers
abbrev pub AreChildrenCosted : List Node → List ℕ → ℕ → Type 0
AreChildrenCosted nodes costs id = All (λ e. IsCosted nodes e.to.0 (slice_index costs e.to.0)) (edges_of nodes id)

-- The children of a node, and the labels that the values of its field have.
use Rattle.std.specs.Prelude.{◌≡◌, ℕ, nat_eq, List, [], ◌∷◌, ◌++◌, Some, fold, slice_get, if◌then◌else◌}
use Rattle.std.specs.List.{list_any, AllZip}
use Rattle.node_store.specs.declared.edge.NodeId.{NodeId}
use Rattle.node_store.specs.declared.edge.Edge.{Edge}
use Rattle.prefix_min.specs.declared.piece.Piece.{Piece}

-- the children, and one more: where it isn't there it goes last
abbrev pub with_child : List NodeId → NodeId → List NodeId
with_child children child = if list_any (λ c. nat_eq child.0 c.0) children then children else children ++ child ∷ []

-- the children to which edges lead, in the order of the first edges that lead to them
abbrev pub children_of : List Edge → List NodeId
children_of edges = fold (λ children e. with_child children e.to) [] edges

-- the piece ends where the edge ends, and its label is the place of the edge's child
abbrev pub IsPiece : List NodeId → Edge → Piece → Type 0
IsPiece children e p = (p.hi ≡ e.hi) × (slice_get children p.label ≡ Some e.to)

-- a piece for each edge, where labels are places among the children
abbrev pub ArePieces : List NodeId → List Edge → List Piece → Type 0
ArePieces children edges pieces = AllZip (IsPiece children) edges pieces

-- under the number of each of the nodes stands its place among them
abbrev pub ArePlaced : List ℕ → List NodeId → Type 0
ArePlaced places nodes = (i : ℕ) (node : NodeId) → slice_get nodes i ≡ Some node → slice_get places node.0 ≡ Some i

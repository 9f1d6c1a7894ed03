-- Decision diagrams whose nodes stand in a list and are named by their places.
-- From the firewall decision diagrams of Gouda and Liu, ordered and full.
use Rattle.std.specs.Prelude.{ℕ, List, [], ◌∷◌, Option, Some, None, slice_get, unwrap_or}
use Rattle.node_store.specs.declared.edge.Edge.{Edge}
use Rattle.node_store.specs.Edges.{child_of}

-- a leaf with its decision, or an inner node with its level and its edges
pub data Node : Type 0 where
  Leaf : (decision : ℕ) → Node
  Inner : (level : List ℕ) (edges : List Edge) → Node

-- the level at which a node stands; 5 is no field
abbrev pub node_level : Option Node → List ℕ
node_level None = 5 ∷ []
node_level (Some (Leaf decision)) = []
node_level (Some (Inner level edges)) = level

-- the edges of a node, none for a leaf
abbrev pub node_edges : Option Node → List Edge
node_edges None = []
node_edges (Some (Leaf decision)) = []
node_edges (Some (Inner level es)) = es

-- the decision of a leaf, none for an inner node
abbrev pub node_decision : Option Node → Option ℕ
node_decision None = None
node_decision (Some (Leaf d)) = Some d
node_decision (Some (Inner level es)) = None

-- the same of the node at a place
abbrev pub level_of : List Node → ℕ → List ℕ
level_of nodes id = node_level (slice_get nodes id)

abbrev pub edges_of : List Node → ℕ → List Edge
edges_of nodes id = node_edges (slice_get nodes id)

abbrev pub decision_of : List Node → ℕ → Option ℕ
decision_of nodes id = node_decision (slice_get nodes id)

-- what a node answers for the values of the fields from its level on
abbrev pub answer : List Node → ℕ → List ℕ → ℕ
answer nodes id [] = unwrap_or (decision_of nodes id) 0
answer nodes id (v ∷ values) = answer nodes (child_of (edges_of nodes id) v) values

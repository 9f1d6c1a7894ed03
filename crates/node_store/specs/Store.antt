-- What holds of the nodes of every store, and what no call changes.
use Rattle.std.specs.Prelude.{◌≡◌, ◌⊎◌, ℕ, ◌<◌, List, [], ◌∷◌, ◌++◌, length, Some, slice_get, All}
use Rattle.node_store.specs.Levels.{HasField, next, top_of}
use Rattle.node_store.specs.declared.edge.Edge.{Edge}
use Rattle.node_store.specs.Edges.{AreFull, LeadApart}
use Rattle.node_store.specs.Diagram.{Node, level_of, answer}
use Rattle.node_store.specs.Diagram.Node.{Leaf, Inner}

-- the edge leads from the place to an older node, at the next level
abbrev pub LeadsOn : List Node → ℕ → List ℕ → Edge → Type 0
LeadsOn nodes place level e = (e.to.0 < place) × (level_of nodes e.to.0 ≡ next level)

-- an inner node at a place: its edges fill its field, neighbours lead apart, all lead on
pub record IsInner (nodes : List Node) (place : ℕ) (level : List ℕ) (edges : List Edge) : Type 0 where
  pub field : HasField level
  pub full : AreFull (top_of level) edges
  pub apart : LeadApart edges
  pub children : All (LeadsOn nodes place level) edges

-- the node may stand at the place
abbrev pub FitsAt : List Node → ℕ → Node → Type 0
FitsAt nodes place (Leaf decision) = Unit {0}
FitsAt nodes place (Inner level edges) = IsInner nodes place level edges

-- the nodes of a store: each fits where it stands, and none stands twice
pub record IsStore (nodes : List Node) : Type 0 where
  pub fits : (id : ℕ) (node : Node) → slice_get nodes id ≡ Some node → FitsAt nodes id node
  pub once : (i j : ℕ) (node : Node) → slice_get nodes i ≡ Some node → slice_get nodes j ≡ Some node → i ≡ j

-- all of the edges lead to nodes of the level
abbrev pub LeadTo : List Node → List ℕ → List Edge → Type 0
LeadTo nodes level edges = All (λ e. level_of nodes e.to.0 ≡ level) edges

-- the store only gained nodes, and each old number answers as before
pub record Grows (old new : List Node) : Type 0 where
  pub gained : (more : List Node) × (new ≡ old ++ more)
  pub answers : (id : ℕ) (values : List ℕ) → id < length old → answer new id values ≡ answer old id values

-- the node has the number: its old one, or that of the only node which the store gained
pub record IsNumbered (old new : List Node) (node : Node) (id : ℕ) : Type 0 where
  pub found : slice_get new id ≡ Some node
  pub old_number : (place : ℕ) → slice_get old place ≡ Some node → (id ≡ place) × (new ≡ old)
  pub gained : (new ≡ old) ⊎ ((id ≡ length old) × (new ≡ old ++ node ∷ []))

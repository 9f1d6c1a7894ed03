-- Nodes with another field of their level in front.
use Rattle.std.specs.Prelude.{◌≡◌, ℕ, ◌<◌, ◌≤◌, ◌^◌, Bool, ◌&&◌, nat_eq, List, [], ◌∷◌, length, slice_index, slice_index_or, Some, map, if◌then◌else◌}
use Rattle.std.specs.HashMap.{get}
use Rattle.field_boxes.specs.Headline.Fields.{width}
use Rattle.field_boxes.specs.Fields.{greatest_of}
use Rattle.node_store.specs.declared.edge.NodeId.{NodeId}
use Rattle.node_store.specs.declared.edge.Edge.{Edge}
use Rattle.node_store.specs.Levels.{HasField, IsLevel, top_of}
use Rattle.node_store.specs.Edges.{child_of}
use Rattle.node_store.specs.Diagram.{Node, level_of, edges_of, answer}
use Rattle.field_order.specs.declared.fronts.Asked.{Asked}
use Rattle.field_order.specs.declared.fronts.Fronts.{Fronts}

-- the level without the field
abbrev pub without : ℕ → List ℕ → List ℕ
without f [] = []
without f (g ∷ level) = if nat_eq g f then without f level else g ∷ without f level

-- each field has one of its values
abbrev pub Fits : (ℕ → ℕ) → Type 0
Fits h = (f : ℕ) → h f < 2 ^ width f

-- the node answers as the other one does, and reads this field of it first
pub record IsFront (nodes : List Node) (id f front : ℕ) : Type 0 where
  pub within : IsLevel (level_of nodes id)
  pub field : HasField (f ∷ without f (level_of nodes id))
  pub level : level_of nodes front ≡ f ∷ without f (level_of nodes id)
  pub answers : (h : ℕ → ℕ) → Fits h → answer nodes front (map h (f ∷ without f (level_of nodes id))) ≡ answer nodes id (map h (level_of nodes id))

-- an edge to the front of where the other edge leads
abbrev pub IsFrontEdge : List Node → ℕ → Edge → Edge → Type 0
IsFrontEdge nodes f e d = (d.hi ≡ e.hi) × IsFront nodes e.to.0 f d.to.0

-- an edge to where the values from lo to hi lead from the other edge's node
abbrev pub IsCell : List Node → ℕ → ℕ → Edge → Edge → Type 0
IsCell nodes lo hi e d = (d.hi ≡ e.hi) × ((v : ℕ) → lo ≤ v → v ≤ hi → child_of (edges_of nodes e.to.0) v ≡ d.to.0)

-- an edge to a node of the level, which leads from each value of its field where the edges' node of that value leads from the value at which the edge ends
pub record IsSample (old new : List Node) (level : List ℕ) (f : ℕ) (edges : List Edge) (e : Edge) : Type 0 where
  pub inside : e.hi ≤ greatest_of f
  pub level_is : level_of new e.to.0 ≡ level
  pub answers : (u : ℕ) (values : List ℕ) → u ≤ top_of level → answer new e.to.0 (u ∷ values) ≡ answer old (child_of (edges_of old (child_of edges u)) e.hi) values

-- all edges before the place end below the value
abbrev pub ArePassed : List Edge → ℕ → ℕ → Type 0
ArePassed edges place v = (k : ℕ) (d : Edge) → k < place → (slice_index_or edges k d).hi < v

-- the edge at the place is that of the values from this one up to its end
pub record IsEdgeAt (greatest : ℕ) (edges : List Edge) (v place : ℕ) : Type 0 where
  pub inside : place < length edges
  pub low : (d : Edge) → v ≤ (slice_index_or edges place d).hi
  pub high : (d : Edge) → (slice_index_or edges place d).hi ≤ greatest
  pub leads : (d : Edge) (u : ℕ) → v ≤ u → u ≤ (slice_index_or edges place d).hi → child_of edges u ≡ (slice_index_or edges place d).to.0

-- for each edge a place among the edges of the node to which it leads, none of them behind the value's edge
pub record ArePlaces (nodes : List Node) (edges : List Edge) (places : List ℕ) (v : ℕ) : Type 0 where
  pub count : length places ≡ length edges
  pub passed : (k : ℕ) (d : Edge) → k < length edges → ArePassed (edges_of nodes (slice_index_or edges k d).to.0) (slice_index places k) v

-- the questions are the same
abbrev pub same_asked : Asked → Asked → Bool
same_asked p q = nat_eq p.id.0 q.id.0 && nat_eq p.field q.field

-- each question is kept with its answer
abbrev pub AreFronts : List Node → Fronts → Type 0
AreFronts nodes fronts = (asked : Asked) (front : NodeId) → get same_asked fronts.made asked ≡ Some front → IsFront nodes asked.id.0 asked.field front.0

-- Nodes that answer 0 for all values, and nodes that answer something for all values.
use Rattle.std.specs.Prelude.{◌≡◌, ◌<◌, ℕ, Bool, true, false, nat_eq, List, length, All, slice_index_or}
use Rattle.std.specs.List.{Contains}
use Rattle.field_boxes.specs.Headline.Fields.{AreValues}
use Rattle.node_store.specs.declared.edge.Edge.{Edge}
use Rattle.node_store.specs.declared.edge.NodeId.{NodeId}
use Rattle.node_store.specs.Diagram.{Node, level_of, answer}

-- whether the node answers 0 is told for all values of its level
abbrev pub AnswersThroughout : List Node → Bool → ℕ → Type 0
AnswersThroughout nodes nothing id = (values : List ℕ) → AreValues (level_of nodes id) values → nat_eq (answer nodes id values) 0 ≡ nothing

-- each node that is marked answers so
abbrev pub AreRight : List Node → Bool → List Bool → Type 0
AreRight nodes nothing marks = (id : ℕ) → slice_index_or marks id false ≡ true → AnswersThroughout nodes nothing id

-- there is a mark for each node
pub record AreMarks (nodes : List Node) (nothing : Bool) (marks : List Bool) : Type 0 where
  pub count : length marks ≡ length nodes
  pub right : AreRight nodes nothing marks

-- the edges lead to nodes of which there are marks
abbrev pub LeadWithin : List Bool → List Edge → Type 0
LeadWithin marks edges = All (λ (e : Edge). e.to.0 < length marks) edges

-- and to marked ones alone
abbrev pub LeadToMarked : List Bool → List Edge → Type 0
LeadToMarked marks edges = All (λ (e : Edge). slice_index_or marks e.to.0 false ≡ true) edges

-- there are marks of the nodes
abbrev pub AreWithin : List Bool → List NodeId → Type 0
AreWithin marks ids = All (λ (id : NodeId). id.0 < length marks) ids

-- one of the nodes is marked
abbrev pub HasMarked : List Bool → List NodeId → Type 0
HasMarked marks ids = (id : NodeId) × Contains ids id × (slice_index_or marks id.0 false ≡ true)

-- One node that comes of two of its level.
use Rattle.std.specs.Prelude.{◌≡◌, ℕ, List}
use Rattle.field_boxes.specs.Headline.Fields.{AreValues}
use Rattle.node_store.specs.declared.edge.NodeId.{NodeId}
use Rattle.node_store.specs.declared.edge.Edge.{Edge}
use Rattle.node_store.specs.declared.split.Part.{Part}
use Rattle.node_store.specs.Diagram.{Node, level_of, answer}
use Rattle.node_store.specs.Levels.{IsLevel}
use Rattle.fdd_apply.specs.declared.pair.Pair.{Pair}

-- both nodes stand at the level
pub record AreAt (nodes : List Node) (place : List ℕ) (pair : Pair) : Type 0 where
  pub left : level_of nodes pair.left.0 ≡ place
  pub right : level_of nodes pair.right.0 ≡ place

-- the node answers what comes of the answers of two nodes, all of one level
pub record IsApplied (f : ℕ → ℕ → ℕ) (nodes : List Node) (pair : Pair) (id : NodeId) : Type 0 where
  pub within : IsLevel (level_of nodes pair.left.0)
  pub beside : level_of nodes pair.right.0 ≡ level_of nodes pair.left.0
  pub level : level_of nodes id.0 ≡ level_of nodes pair.left.0
  pub answers : (values : List ℕ) → AreValues (level_of nodes pair.left.0) values →
      answer nodes id.0 values ≡ f (answer nodes pair.left.0 values) (answer nodes pair.right.0 values)

-- an edge for a part: it ends where the part ends, and leads to what comes of the part's nodes
abbrev pub IsAppliedPart : (ℕ → ℕ → ℕ) → List Node → Part → Edge → Type 0
IsAppliedPart f nodes part edge = (edge.hi ≡ part.hi) × IsApplied f nodes (record { left = part.left; right = part.right }) edge.to

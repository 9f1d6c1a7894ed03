-- Nodes that answer 0 for all values.
use Rattle.std.specs.Prelude.{◌≡◌, ℕ, List, [], ◌∷◌, All}
use Rattle.field_boxes.specs.Headline.Fields.{AreValues}
use Rattle.node_store.specs.Levels.{IsLevel}
use Rattle.node_store.specs.declared.edge.NodeId.{NodeId}
use Rattle.node_store.specs.Diagram.{Node, level_of, answer}

-- the node stands at the level and answers 0 for all values
pub record AnswersNothing (nodes : List Node) (place : List ℕ) (id : ℕ) : Type 0 where
  pub level : level_of nodes id ≡ place
  pub zero : (values : List ℕ) → AreValues place values → answer nodes id values ≡ 0

-- for the level and each one after it the node that answers 0
abbrev pub AreNothing : List Node → List ℕ → List NodeId → Type 0
AreNothing nodes level [] = ⊥
AreNothing nodes [] (id ∷ ids) = AnswersNothing nodes [] id.0 × (ids ≡ [])
AreNothing nodes (f ∷ level) (id ∷ ids) = AnswersNothing nodes (f ∷ level) id.0 × AreNothing nodes level ids

-- the node answers 0 for all values of its level
pub record IsZero (nodes : List Node) (id : NodeId) : Type 0 where
  pub within : IsLevel (level_of nodes id.0)
  pub zero : (values : List ℕ) → AreValues (level_of nodes id.0) values → answer nodes id.0 values ≡ 0

-- so does each of these
abbrev pub AreZeros : List Node → List NodeId → Type 0
AreZeros nodes ids = All (IsZero nodes) ids

-- Nodes that answer one number for all values.
use Rattle.std.specs.Prelude.{◌≡◌, ℕ, List}
use Rattle.field_boxes.specs.Headline.Fields.{AreValues}
use Rattle.node_store.specs.Diagram.{Node, level_of, answer}

-- the node stands at the level and answers the number for all values
pub record AnswersAlways (nodes : List Node) (place : List ℕ) (decision id : ℕ) : Type 0 where
  pub level : level_of nodes id ≡ place
  pub answers : (values : List ℕ) → AreValues place values → answer nodes id values ≡ decision

-- the node answers the number for all values of its level
abbrev pub AnswersOnly : List Node → ℕ → ℕ → Type 0
AnswersOnly nodes decision id = (values : List ℕ) → AreValues (level_of nodes id) values → answer nodes id values ≡ decision

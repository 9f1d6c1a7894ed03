-- What two nodes of one level are asked over the rest of a box.
use Rattle.std.specs.Prelude.{◌≡◌, ◌≢◌, ℕ, Bool, IsTrue, List}
use Rattle.field_boxes.specs.declared.span.Span.{Span}
use Rattle.field_boxes.specs.Headline.Fields.{AreValues}
use Rattle.field_boxes.specs.Headline.Classifier.{Rule, matches}
use Rattle.field_boxes.specs.Boxes.{box_of}
use Rattle.node_store.specs.Diagram.{Node, level_of, answer}
use Rattle.fdd_ops.specs.declared.pair.Pair.{Pair}
use Rattle.fdd_ops.specs.declared.question.Question.{Question}

-- both nodes stand at the level
pub record AreAt (nodes : List Node) (level : List ℕ) (pair : Pair) : Type 0 where
  pub which : level_of nodes pair.which.0 ≡ level
  pub answers : level_of nodes pair.answers.0 ≡ level

-- whether the values of a level's fields lie in the box's spans of them
abbrev pub rest_holds : List Span → List ℕ → List ℕ → Bool
rest_holds spans level values = let box : Rule ℕ = record { sets = box_of spans; decision = 0 } in matches level values box

-- the values of the node's level are those of a header of the box that is meant
abbrev pub AreMeant : Question → List Node → ℕ → List ℕ → Type 0
AreMeant question nodes which values =
    AreValues (level_of nodes which) values × IsTrue (rest_holds question.spans (level_of nodes which) values) × (answer nodes which values ≡ question.index)

-- all that is meant is decided as asked
pub record Agree (question : Question) (nodes : List Node) (which answers : ℕ) : Type 0 where
  pub decided : (values : List ℕ) → AreMeant question nodes which values → answer nodes answers values ≡ question.decision

-- something that is meant is decided otherwise
pub record Differ (question : Question) (nodes : List Node) (which answers : ℕ) : Type 0 where
  pub values : List ℕ
  pub meant : AreMeant question nodes which values
  pub otherwise : answer nodes answers values ≢ question.decision

-- Filter lists: rules with the names of their decisions.
use Rattle.std.specs.Prelude.{ℕ, List}
use Rattle.field_boxes.specs.Headline.Classifier.{Rule}

-- a list: rules with the names of their decisions, and how many of them are flagged
pub record FilterList : Type 0 where
  pub rules : List (Rule (List ℕ))
  pub flagged : ℕ

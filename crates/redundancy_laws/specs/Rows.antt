-- Entries as an interval of each field and a decision, over the fields from a level on.
use Rattle.std.specs.Prelude.{ℕ, Bool, true, ◌&&◌, cond, List, [], ◌∷◌}
use Rattle.field_boxes.specs.Headline.Classifier.{Interval, interval_holds}

-- an interval for each field, and what the values in them are answered
pub record Row : Type 0 where
  pub spans : List Interval
  pub decision : ℕ

-- whether each value lies in the interval of its field
abbrev pub each_holds : List Interval → List ℕ → Bool
each_holds [] values = true
each_holds (span ∷ spans) [] = true
each_holds (span ∷ spans) (v ∷ values) = interval_holds v span && each_holds spans values

abbrev pub matches : List ℕ → Row → Bool
matches values r = each_holds r.spans values

-- what the first row that matches decides, or the other number where none does
abbrev pub answer_or : List ℕ → List Row → ℕ → ℕ
answer_or values [] other = other
answer_or values (r ∷ rows) other = cond (matches values r) r.decision (answer_or values rows other)

-- a row with no field left
abbrev pub last_row : ℕ → Row
last_row decision = record { spans = []; decision = decision }

-- the row with an interval of one more field in front
abbrev pub in_front : Interval → Row → Row
in_front span r = record { spans = span ∷ r.spans; decision = r.decision }

-- How a query ends.
use Rattle.std.specs.Prelude.{◌≡◌, ℕ, List, Option, Result, Ok, Err, length}
use Rattle.razor_base.specs.Headline.Outcomes.{CallOutcome}
use Rattle.razor_base.specs.Output.{Appends, AppendsFront, AreRefused, AreTaken}
use Rattle.field_boxes.specs.Headline.Classifier.{Interval, Rule}
use Rattle.box_query.specs.Boxes.{AreBoxesOf}
use Rattle.box_query.specs.BoxText.{boxes_text}
use Rattle.box_query.specs.declared.error.QueryError.{QueryError}
use Rattle.box_query.specs.declared.error.QueryError.TheVariants.{Fault, Memory}

-- the lines of the boxes were appended, and there are so many boxes
pub record IsWritten (rules : List (Rule (List ℕ))) (box : List Interval) (name : Option (List ℕ)) (before after : List CallOutcome) (count : ℕ) : Type 0 where
  pub boxes : List (List Interval)
  pub right : AreBoxesOf rules box name boxes
  pub appended : Appends before after (boxes_text boxes)
  pub counted : count ≡ length boxes

-- a front of the lines of the boxes was appended
pub record IsCutOff (rules : List (Rule (List ℕ))) (box : List Interval) (name : Option (List ℕ)) (before after : List CallOutcome) : Type 0 where
  pub boxes : List (List Interval)
  pub right : AreBoxesOf rules box name boxes
  pub appended : AppendsFront before after (boxes_text boxes)

-- what stands after each error: a front of the lines, or nothing of them
abbrev pub Ends : List (Rule (List ℕ)) → List Interval → Option (List ℕ) → List CallOutcome → List CallOutcome → QueryError → Type 0
Ends rules box name before after Fault = IsCutOff rules box name before after
Ends rules box name before after Memory = after ≡ before

-- the writes of a query: none failed, or the last one did
abbrev pub AreWritesOf : {T : Type 0} → Result T QueryError → List CallOutcome → Type 0
AreWritesOf (Ok boxes) added = AreTaken added
AreWritesOf (Err Fault) added = AreRefused added
AreWritesOf (Err Memory) added = AreTaken added

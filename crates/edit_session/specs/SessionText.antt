-- The text of an editing session: its commands, and the lines that spell them.
use Rattle.std.specs.Prelude.{ℕ, Bool, true, false, List, [], ◌∷◌, codes, Option, Some, None, Result, Ok, Err, ok_or, if◌then◌else◌}
use Rattle.std.specs.Result.{result_ok}
use Rattle.std.specs.Str.{bytes_eq}
use Rattle.field_boxes.specs.Headline.Classifier.{Rule}
use Rattle.text_lines.specs.Columns.{behind_column, columns, first_column}
use Rattle.text_lines.specs.Headline.Numbers.{short_number}
use Rattle.text_lines.specs.Headline.Reading.{BadLine}
use Rattle.text_lines.specs.Headline.Steps.{◌>>=◌}
use Rattle.text_lines.specs.Reading.{items_of}
use Rattle.filter_reader.specs.Headline.RuleLine.{rule_line}
use Rattle.bank_update.specs.Script.{values_of}
use Rattle.edit_session.specs.declared.reason.SessionReason.{SessionReason}
use Rattle.edit_session.specs.declared.reason.SessionReason.TheVariants as reasons

-- a command: to put a rule with its decision at a place of the list, to take the rule at a place out, both counted from 1, to begin a swap to the list's table, to step, to abort, to look up a header's values, or to say the stage
pub data SessionEvent : Type 0 where
  Add : ℕ → Rule (List ℕ) → SessionEvent
  TakeOut : ℕ → SessionEvent
  Commit : SessionEvent
  Step : SessionEvent
  Abort : SessionEvent
  Look : List ℕ → SessionEvent
  Stage : SessionEvent

-- whether it puts a rule into the list
abbrev pub is_add : SessionEvent → Bool
is_add (Add place rule) = true
is_add (TakeOut place) = false
is_add Commit = false
is_add Step = false
is_add Abort = false
is_add (Look values) = false
is_add Stage = false

-- a place of one to ten digits, at most 4294967295, and the columns behind it
unfoldable pub place_column : List (List ℕ) → Option (ℕ × List (List ℕ))
place_column columns = do
  column ← first_column columns
  place ← short_number 10 10 4294967295 column.0
  Some (place, column.1)

-- a good rule line with a decision word
unfoldable pub rule_of : List ℕ → Option (Rule (List ℕ))
rule_of text = do
  spelled ← result_ok (rule_line 0 text)
  word ← spelled.word
  Some (record { sets = spelled.sets; decision = word })

-- the event, where no column is left
abbrev pub when_done : SessionEvent → List (List ℕ) → Option SessionEvent
when_done event [] = Some event
when_done event (column ∷ columns) = None

-- a place alone
unfoldable pub take_out_of : List (List ℕ) → Option SessionEvent
take_out_of columns = do
  place ← place_column columns
  when_done (TakeOut place.0) place.1

-- the values of a header alone
unfoldable pub look_of : List (List ℕ) → Option SessionEvent
look_of columns = do
  values ← values_of columns
  when_done (Look values.0) values.1

-- to add a rule takes a place, and then a rule
abbrev pub add_of : Option (ℕ × List (List ℕ)) → Option (Rule (List ℕ)) → Result SessionEvent SessionReason
add_of None rule = Err reasons.Arguments
add_of (Some place) None = Err reasons.Rule
add_of (Some place) (Some rule) = Ok (Add place.0 rule)

-- a command other than to add a rule, by its word and the columns behind it
unfoldable pub other_named : List ℕ → List (List ℕ) → Result SessionEvent SessionReason
other_named word columns =
    if bytes_eq word (codes "drop") then ok_or (take_out_of columns) reasons.Arguments
    else (if bytes_eq word (codes "commit") then ok_or (when_done Commit columns) reasons.Arguments
    else (if bytes_eq word (codes "step") then ok_or (when_done Step columns) reasons.Arguments
    else (if bytes_eq word (codes "abort") then ok_or (when_done Abort columns) reasons.Arguments
    else (if bytes_eq word (codes "look") then ok_or (look_of columns) reasons.Arguments
    else (if bytes_eq word (codes "stage") then ok_or (when_done Stage columns) reasons.Arguments
    else Err reasons.Command)))))

-- a command by its word and the text behind it: the rule to add is the rest of the line behind its place
abbrev pub event_named : List ℕ → List ℕ → Result SessionEvent SessionReason
event_named word text =
    if bytes_eq word (codes "add") then add_of (place_column (columns text)) (rule_of (behind_column text))
    else other_named word (columns text)

-- a command by its first column, if there is one, and the text behind it
abbrev pub event_behind : Option (List ℕ × List (List ℕ)) → List ℕ → Result SessionEvent SessionReason
event_behind None text = Err reasons.Command
event_behind (Some column) text = event_named column.0 text

-- the command of a line
abbrev pub event_of_line : List ℕ → Result SessionEvent SessionReason
event_of_line line = event_behind (first_column (columns line)) (behind_column line)

-- the session that a text spells, or its first bad line
abbrev pub session_of : List ℕ → Result (List SessionEvent) (BadLine SessionReason)
session_of text = items_of event_of_line text

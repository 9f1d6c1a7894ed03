-- A script: its commands, and the text that spells them.
use Rattle.std.specs.Prelude.{ℕ, ◌≤◌, List, [], ◌∷◌, nat_le, codes, Option, Some, None, Result, Err, ok_or, if◌then◌else◌}
use Rattle.std.specs.Str.{bytes_eq}
use Rattle.field_boxes.specs.Fields.{greatest_of}
use Rattle.text_lines.specs.Columns.{columns, first_column}
use Rattle.text_lines.specs.Headline.Numbers.{number_within}
use Rattle.text_lines.specs.Headline.Reading.{BadLine}
use Rattle.text_lines.specs.Headline.Steps.{◌>>=◌}
use Rattle.text_lines.specs.Reading.{items_of}
use Rattle.bank_update.specs.declared.reason.ScriptReason.{ScriptReason}
use Rattle.bank_update.specs.declared.reason.ScriptReason.TheVariants as reasons

-- a command: to begin a swap to a copy of a table, counted from 1, to step, to abort, to look up a header's values, or to say the stage
pub data Event : Type 0 where
  Begin : ℕ → Event
  Step : Event
  Abort : Event
  Look : List ℕ → Event
  Stage : Event

-- the table that it names is one of so many
abbrev pub IsWithin : ℕ → Event → Type 0
IsWithin tables (Begin table) = (1 ≤ table) × (table ≤ tables)
IsWithin tables Step = Unit {0}
IsWithin tables Abort = Unit {0}
IsWithin tables (Look values) = Unit {0}
IsWithin tables Stage = Unit {0}

-- the value of the first column, no greater than this, and the columns behind it
unfoldable pub value_column : ℕ → List (List ℕ) → Option (ℕ × List (List ℕ))
value_column greatest columns = do
  column ← first_column columns
  value ← number_within 10 greatest column.0
  Some (value, column.1)

-- the event, where no column is left
abbrev pub when_done : Event → List (List ℕ) → Option Event
when_done event [] = Some event
when_done event (column ∷ columns) = None

-- a swap to the table, whose number is 1 or above
abbrev pub begin_from_1 : ℕ → List (List ℕ) → Option Event
begin_from_1 table columns = if nat_le 1 table then when_done (Begin table) columns else None

-- the number of one of so many tables
unfoldable pub begin_of : ℕ → List (List ℕ) → Option Event
begin_of tables columns = do
  table ← value_column tables columns
  begin_from_1 table.0 table.1

-- a value for each of the five fields, from left to right, and the columns behind them
unfoldable pub values_of : List (List ℕ) → Option (List ℕ × List (List ℕ))
values_of columns = do
  source ← value_column (greatest_of 0) columns
  destination ← value_column (greatest_of 1) source.1
  source_port ← value_column (greatest_of 2) destination.1
  destination_port ← value_column (greatest_of 3) source_port.1
  protocol ← value_column (greatest_of 4) destination_port.1
  Some (source.0 ∷ destination.0 ∷ source_port.0 ∷ destination_port.0 ∷ protocol.0 ∷ [], protocol.1)

-- the values of a header alone
unfoldable pub look_of : List (List ℕ) → Option Event
look_of columns = do
  values ← values_of columns
  when_done (Look values.0) values.1

-- a command by its word and the columns behind it
unfoldable pub event_named : ℕ → List ℕ → List (List ℕ) → Result Event ScriptReason
event_named tables word columns =
    if bytes_eq word (codes "begin") then ok_or (begin_of tables columns) reasons.Arguments
    else (if bytes_eq word (codes "step") then ok_or (when_done Step columns) reasons.Arguments
    else (if bytes_eq word (codes "abort") then ok_or (when_done Abort columns) reasons.Arguments
    else (if bytes_eq word (codes "look") then ok_or (look_of columns) reasons.Arguments
    else (if bytes_eq word (codes "stage") then ok_or (when_done Stage columns) reasons.Arguments
    else Err reasons.Command))))

-- a command by all its columns
abbrev pub event_of_columns : ℕ → List (List ℕ) → Result Event ScriptReason
event_of_columns tables [] = Err reasons.Command
event_of_columns tables (word ∷ columns) = event_named tables word columns

-- the event of a line
abbrev pub event_of_line : ℕ → List ℕ → Result Event ScriptReason
event_of_line tables line = event_of_columns tables (columns line)

-- the script that a text spells, or its first bad line
abbrev pub script_of : ℕ → List ℕ → Result (List Event) (BadLine ScriptReason)
script_of tables text = items_of (event_of_line tables) text

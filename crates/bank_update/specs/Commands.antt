-- The commands of the code as events.
use Rattle.std.specs.Prelude.{ℕ, List, map, Option, option_map, Result, Ok, Err}
use Rattle.std.specs.Borrow.{Bor}
use Rattle.field_boxes.specs.declared.header.Header.{Header}
use Rattle.text_lines.specs.Columns.{columns}
use Rattle.bank_update.specs.Script.{Event, Begin, Step, Abort, Look, Stage}
use Rattle.bank_update.specs.declared.script.Command.{Command}
use Rattle.bank_update.specs.declared.script.Command.TheVariants as commands
use Rattle.bank_update.specs.declared.reason.ScriptReason.{ScriptReason}

-- a command of the code as an event
abbrev pub event_of : Command → Event
event_of (commands.Begin table) = Begin table
event_of commands.Step = Step
event_of commands.Abort = Abort
event_of (commands.Look header) = Look header.values
event_of commands.Stage = Stage

-- commands as events
abbrev pub events_of : List Command → List Event
events_of cs = map event_of cs

-- the command of a line, seen as its event
abbrev pub event_seen : Result Command ScriptReason → Result Event ScriptReason
event_seen (Ok c) = Ok (event_of c)
event_seen (Err reason) = Err reason

-- a column's value, and the columns behind it
abbrev pub column_seen : Option (ℕ × Bor (List ℕ)) → Option (ℕ × List (List ℕ))
column_seen column = option_map (λ c. (c.0, columns c.1.now)) column

-- the values of a header, and the columns behind them
abbrev pub values_seen : Option (Header × Bor (List ℕ)) → Option (List ℕ × List (List ℕ))
values_seen header = option_map (λ h. (h.0.values, columns h.1.now)) header

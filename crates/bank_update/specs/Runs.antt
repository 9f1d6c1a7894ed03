-- What the commands of a script do and print, each in its turn.
use Rattle.std.specs.Prelude.{◌≡◌, ℕ, ◌+◌, ◌-◌, ◌≤◌, ◌^◌, ◌⊎◌, Bool, false, ◌&&◌, List, [], ◌∷◌, length, map, slice_get, Option, Some, None, is_some, if◌then◌else◌}
use Rattle.ternary_words.specs.declared.table.Table.{Table}
use Rattle.tcam_sim.specs.Tries.{counted_times}
use Rattle.bank_update.specs.Lines.{begin_line, fault_line, look_line, stage_or_idle}
use Rattle.bank_update.specs.Machine.{State, abort_answer, aborted, looked, stage, step_answer, stepped}
use Rattle.bank_update.specs.Whole.{begin_answer, begun}
use Rattle.bank_update.specs.Script.{Event, Begin, Step, Abort, Look, Stage}

-- a command in its turn, and whether the device fails where the command writes to it
pub record Turn : Type 0 where
  pub event : Event
  pub fails : Bool

-- no device fails
abbrev pub calm : Event → Turn
calm event = record { event = event; fails = false }

-- the table with this number, counted from 1
abbrev pub table_of_number : List Table → ℕ → Option Table
table_of_number tables number = slice_get tables (number - 1)

-- a swap to the table begins
abbrev pub begun_to_table : State → Option Table → State
begun_to_table s None = s
begun_to_table s (Some table) = begun s table.entries.items table.names

-- and its line
abbrev pub table_line : State → Option Table → List ℕ
table_line s None = []
table_line s (Some table) = begin_line (begin_answer s (length table.entries.items))

-- whether a step fails: a swap is pending, and the device fails
abbrev pub step_fails : State → Bool → Bool
step_fails s fails = fails && is_some s.pending

-- the state after a command
abbrev pub next : List Table → State → Event → Bool → State
next tables s (Begin number) fails = begun_to_table s (table_of_number tables number)
next tables s Step fails = if step_fails s fails then s else stepped s
next tables s Abort fails = aborted s
next tables s (Look values) fails = s
next tables s Stage fails = s

-- the line that it prints
abbrev pub line_of : List Table → State → Event → Bool → List ℕ
line_of tables s (Begin number) fails = table_line s (table_of_number tables number)
line_of tables s Step fails = if step_fails s fails then fault_line else stage_or_idle (step_answer s)
line_of tables s Abort fails = stage_or_idle (abort_answer s)
line_of tables s (Look values) fails = look_line (looked s values)
line_of tables s Stage fails = stage_or_idle (stage s)

-- how many steps fail with it: one or none
abbrev pub faults_of : State → Event → Bool → ℕ
faults_of s (Begin number) fails = 0
faults_of s Step fails = if step_fails s fails then 1 else 0
faults_of s Abort fails = 0
faults_of s (Look values) fails = 0
faults_of s Stage fails = 0

-- how many writes are tried with a command: one by a step while a swap is pending, and none by any other
abbrev pub tries_of : State → Event → ℕ
tries_of s (Begin number) = 0
tries_of s Step = if is_some s.pending then 1 else 0
tries_of s Abort = 0
tries_of s (Look values) = 0
tries_of s Stage = 0

-- the state after turns
abbrev pub state_after : List Table → State → List Turn → State
state_after tables s [] = s
state_after tables s (turn ∷ turns) = state_after tables (next tables s turn.event turn.fails) turns

-- the lines of turns
abbrev pub lines_of : List Table → State → List Turn → List (List ℕ)
lines_of tables s [] = []
lines_of tables s (turn ∷ turns) = line_of tables s turn.event turn.fails ∷ lines_of tables (next tables s turn.event turn.fails) turns

-- how many steps fail in turns
abbrev pub fault_count : List Table → State → List Turn → ℕ
fault_count tables s [] = 0
fault_count tables s (turn ∷ turns) = faults_of s turn.event turn.fails + fault_count tables (next tables s turn.event turn.fails) turns

-- how many writes are tried in turns
abbrev pub try_count : List Table → State → List Turn → ℕ
try_count tables s [] = 0
try_count tables s (turn ∷ turns) = tries_of s turn.event + try_count tables (next tables s turn.event turn.fails) turns

-- what the commands print where no device fails, and the state after them
abbrev pub session : List Table → State → List Event → List (List ℕ)
session tables s events = lines_of tables s (map calm events)

-- the state that they come to where no device fails
abbrev pub session_end : List Table → State → List Event → State
session_end tables s events = state_after tables s (map calm events)

-- a count of faults rose by so many at least, or stands at its last value
abbrev pub RoseBy : ℕ → ℕ → ℕ → Type 0
RoseBy count before after = (before + count ≤ after) ⊎ (2 ^ 64 - 1 ≤ after)

-- commands ran from one state to another and printed these lines, each in its turn, and no more steps failed than the
-- device's count of faults rose by
pub record IsRun (tables : List Table) (start last : State) (before after : ℕ) (events : List Event) (lines : List (List ℕ)) : Type 0 where
  pub turns : List Turn
  pub commands : map (λ (t : Turn). t.event) turns ≡ events
  pub state : last ≡ state_after tables start turns
  pub printed : lines ≡ lines_of tables start turns
  pub counted : RoseBy (fault_count tables start turns) before after

-- such a run, in which each step tried one write while a swap was pending, and nothing else tried any
pub record IsTriedRun (tables : List Table) (start last : State) (before after tried tries : ℕ) (events : List Event) (lines : List (List ℕ)) : Type 0 where
  pub run : IsRun tables start last before after events lines
  pub once : tries ≡ counted_times (try_count tables start run.turns) tried

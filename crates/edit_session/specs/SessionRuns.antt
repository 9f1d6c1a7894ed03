-- What the commands of an editing session do and print, each in its turn.
use Rattle.std.specs.Prelude.{◌≡◌, ℕ, ◌+◌, Bool, List, [], ◌∷◌, map, Result, is_some, if◌then◌else◌}
use Rattle.tcam_sim.specs.Tries.{counted_times}
use Rattle.bank_update.specs.Lines.{fault_line, look_line, stage_or_idle}
use Rattle.bank_update.specs.Machine.{abort_answer, looked, stage, step_answer}
use Rattle.bank_update.specs.Runs.{RoseBy, step_fails}
use Rattle.edit_session.specs.Lists.{add_answer, added, take_out_answer, taken_out}
use Rattle.edit_session.specs.Machine.{IsCommit, SessionState, aborted, stepped, with_list}
use Rattle.edit_session.specs.Refusals.{IsKnownCommit}
use Rattle.edit_session.specs.SessionLines.{add_line, commit_line, take_out_line}
use Rattle.edit_session.specs.SessionText.{SessionEvent, Add, TakeOut, Commit, Step, Abort, Look, Stage}
use Rattle.edit_session.specs.declared.refusal.CommitRefusal.{CommitRefusal}

-- a command in its turn: whether the device fails where the command writes to it, the session after it, and its line
pub record Turn : Type 0 where
  pub event : SessionEvent
  pub fails : Bool
  pub after : SessionState
  pub line : List ℕ

-- a commit takes its turn, and memory is not refused
pub record IsCommitted (s new : SessionState) (line : List ℕ) : Type 0 where
  pub answer : Result ℕ CommitRefusal
  pub commit : IsCommit s new answer
  pub answered : IsKnownCommit answer
  pub line_is : line ≡ commit_line answer

-- a command in its turn leaves this session and prints this line
abbrev pub IsTurn : SessionState → SessionEvent → Bool → SessionState → List ℕ → Type 0
IsTurn s (Add place rule) fails new line = (new ≡ with_list s (added s.list place rule)) × (line ≡ add_line (add_answer s.list place))
IsTurn s (TakeOut place) fails new line = (new ≡ with_list s (taken_out s.list place)) × (line ≡ take_out_line (take_out_answer s.list place))
IsTurn s Commit fails new line = IsCommitted s new line
IsTurn s Step fails new line =
    (new ≡ (if step_fails s.state fails then s else stepped s)) × (line ≡ (if step_fails s.state fails then fault_line else stage_or_idle (step_answer s.state)))
IsTurn s Abort fails new line = (new ≡ aborted s) × (line ≡ stage_or_idle (abort_answer s.state))
IsTurn s (Look values) fails new line = (new ≡ s) × (line ≡ look_line (looked s.state values))
IsTurn s Stage fails new line = (new ≡ s) × (line ≡ stage_or_idle (stage s.state))

-- how many steps fail with a command: one or none
abbrev pub faults_of : SessionState → SessionEvent → Bool → ℕ
faults_of s (Add place rule) fails = 0
faults_of s (TakeOut place) fails = 0
faults_of s Commit fails = 0
faults_of s Step fails = if step_fails s.state fails then 1 else 0
faults_of s Abort fails = 0
faults_of s (Look values) fails = 0
faults_of s Stage fails = 0

-- how many writes are tried with a command: one by a step while a swap is pending, and none by any other
abbrev pub tries_of : SessionState → SessionEvent → ℕ
tries_of s (Add place rule) = 0
tries_of s (TakeOut place) = 0
tries_of s Commit = 0
tries_of s Step = if is_some s.state.pending then 1 else 0
tries_of s Abort = 0
tries_of s (Look values) = 0
tries_of s Stage = 0

-- turns one after another
abbrev pub AreTurns : SessionState → List Turn → Type 0
AreTurns s [] = Unit {0}
AreTurns s (turn ∷ turns) = IsTurn s turn.event turn.fails turn.after turn.line × AreTurns turn.after turns

-- the session after turns
abbrev pub last_of : SessionState → List Turn → SessionState
last_of s [] = s
last_of s (turn ∷ turns) = last_of turn.after turns

-- how many steps fail in turns
abbrev pub fault_count : SessionState → List Turn → ℕ
fault_count s [] = 0
fault_count s (turn ∷ turns) = faults_of s turn.event turn.fails + fault_count turn.after turns

-- how many writes are tried in turns
abbrev pub try_count : SessionState → List Turn → ℕ
try_count s [] = 0
try_count s (turn ∷ turns) = tries_of s turn.event + try_count turn.after turns

-- commands ran from one session to another and printed these lines, each in its turn, and no more steps failed than the
-- device's count of faults rose by
pub record IsSessionRun (start last : SessionState) (before after : ℕ) (events : List SessionEvent) (lines : List (List ℕ)) : Type 0 where
  pub turns : List Turn
  pub commands : map (λ (t : Turn). t.event) turns ≡ events
  pub are : AreTurns start turns
  pub state : last ≡ last_of start turns
  pub printed : lines ≡ map (λ (t : Turn). t.line) turns
  pub counted : RoseBy (fault_count start turns) before after

-- such a run, in which each step tried one write while a swap was pending, and nothing else tried any
pub record IsTriedSessionRun (start last : SessionState) (before after tried tries : ℕ) (events : List SessionEvent) (lines : List (List ℕ)) : Type 0 where
  pub run : IsSessionRun start last before after events lines
  pub once : tries ≡ counted_times (try_count start run.turns) tried

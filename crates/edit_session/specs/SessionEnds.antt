-- How running an editing session ends, and what was written by then.
use Rattle.std.specs.Prelude.{◌≡◌, ◌⊎◌, ℕ, ◌≤◌, Bool, List, [], ◌∷◌, ◌++◌, length, count_by, Result, Ok, Err}
use Rattle.std.specs.List.{concat}
use Rattle.razor_base.specs.Headline.Outcomes.{CallOutcome}
use Rattle.razor_base.specs.Output.{Writes}
use Rattle.tcam_sim.specs.Tries.{counted_times}
use Rattle.bank_update.specs.Runs.{RoseBy}
use Rattle.bank_update.specs.declared.drive.DriveError.{DriveError}
use Rattle.bank_update.specs.declared.drive.DriveError.TheVariants.{Memory, WriteFault}
use Rattle.edit_session.specs.Editing.{Editing}
use Rattle.edit_session.specs.Lists.{with_name_alone}
use Rattle.edit_session.specs.Machine.{SessionState, with_list}
use Rattle.edit_session.specs.SessionRuns.{IsTurn, faults_of, tries_of}
use Rattle.edit_session.specs.SessionText.{SessionEvent, Add, TakeOut, Commit, Step, Abort, Look, Stage, is_add}

-- how many commands add a rule
abbrev pub adds_of : List SessionEvent → ℕ
adds_of events = count_by is_add events

-- the session before a command that wanted memory: as it was, or with the name of the rule that it adds
abbrev pub StandsBefore : SessionEvent → SessionState → SessionState → Type 0
StandsBefore (Add place rule) s last = (last ≡ s) ⊎ (last ≡ with_list s (with_name_alone s.list rule.decision))
StandsBefore (TakeOut place) s last = last ≡ s
StandsBefore Commit s last = last ≡ s
StandsBefore Step s last = last ≡ s
StandsBefore Abort s last = last ≡ s
StandsBefore (Look values) s last = last ≡ s
StandsBefore Stage s last = last ≡ s

-- what a command that wanted memory leaves of an editor
abbrev pub IsLeft : {V : Type 0} → SessionEvent → Editing V → Editing V → Type 0
IsLeft event old new = StandsBefore event old.session new.session × (new.device ≡ old.device)

-- all commands ran, and their lines were written
pub record HasRunSession (Ran : SessionState → List SessionEvent → List (List ℕ) → Type 0) (Appended : List ℕ → Type 0) (last : SessionState) (events : List SessionEvent) : Type 0 where
  pub lines : List (List ℕ)
  pub ran : Ran last events lines
  pub written : Appended (concat lines)

-- the commands before one that wanted memory ran, and their lines were written
pub record HasRunBefore (Ran : SessionState → List SessionEvent → List (List ℕ) → Type 0) (Appended : List ℕ → Type 0) (last : SessionState) (events : List SessionEvent) : Type 0 where
  pub front : List SessionEvent
  pub refused : SessionEvent
  pub rest : List SessionEvent
  pub parts : events ≡ front ++ refused ∷ rest
  pub stood : SessionState
  pub stands : StandsBefore refused stood last
  pub lines : List (List ℕ)
  pub ran : Ran stood front lines
  pub written : Appended (concat lines)

-- the first commands ran, and their lines were written, of the last one a front
pub record IsCutOffSession (Ran : SessionState → List SessionEvent → List (List ℕ) → Type 0) (Appended : List ℕ → Type 0) (last : SessionState) (events : List SessionEvent) : Type 0 where
  pub front : List SessionEvent
  pub rest : List SessionEvent
  pub parts : events ≡ front ++ rest
  pub lines : List (List ℕ)
  pub line : List ℕ
  pub part : List ℕ
  pub lost : List ℕ
  pub ran : Ran last front (lines ++ line ∷ [])
  pub cut : line ≡ part ++ lost
  pub written : Appended (concat lines ++ part)

-- `Ran` says of a session, commands and lines that these commands led to it and printed these lines, and `Appended` of a text
-- that it was written
abbrev pub SessionOutcome : (Ran : SessionState → List SessionEvent → List (List ℕ) → Type 0) → (Appended : List ℕ → Type 0) → SessionState → List SessionEvent → Result ℕ DriveError → Type 0
SessionOutcome Ran Appended last events (Ok count) = (count ≡ length events) × HasRunSession Ran Appended last events
SessionOutcome Ran Appended last events (Err Memory) = HasRunBefore Ran Appended last events
SessionOutcome Ran Appended last events (Err WriteFault) = IsCutOffSession Ran Appended last events

-- the command took its turn, and its line is written: the session goes on, and so do the device's counts of faults and of
-- tries
pub record TakesTurn {S T E : Type 0} (written : S → List CallOutcome) (faults : S → ℕ) (before after : S) (old new : SessionState) (failed fails tried tries : ℕ) (event : SessionEvent) (answer : Result T E) : Type 0 where
  pub breaks : Bool
  pub printed : List ℕ
  pub turn : IsTurn old event breaks new printed
  pub counted : RoseBy (faults_of old event breaks) failed fails
  pub counts : failed ≤ fails
  pub once : tries ≡ counted_times (tries_of old event) tried
  pub line : Writes written faults before after printed answer

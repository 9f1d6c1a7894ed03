-- How running a script ends, and what was written by then.
use Rattle.std.specs.Prelude.{◌≡◌, ℕ, List, [], ◌∷◌, ◌++◌, length, Result, Ok, Err}
use Rattle.std.specs.List.{concat}
use Rattle.razor_base.specs.Headline.Outcomes.{CallOutcome}
use Rattle.razor_base.specs.Output.{AreRefused, AreTaken}
use Rattle.bank_update.specs.Script.{Event}
use Rattle.bank_update.specs.declared.drive.DriveError.{DriveError}
use Rattle.bank_update.specs.declared.drive.DriveError.TheVariants.{Memory, WriteFault}

-- the first commands ran, and printed these lines
pub record RanFront (Ran : List Event → List (List ℕ) → Type 0) (events : List Event) (lines : List (List ℕ)) : Type 0 where
  pub front : List Event
  pub rest : List Event
  pub parts : events ≡ front ++ rest
  pub ran : Ran front lines

-- the lines of commands were written
pub record HasRun (Ran : List Event → List (List ℕ) → Type 0) (Appended : List ℕ → Type 0) (events : List Event) : Type 0 where
  pub lines : List (List ℕ)
  pub ran : Ran events lines
  pub written : Appended (concat lines)

-- the lines of the first commands were written
pub record HasRunFront (Ran : List Event → List (List ℕ) → Type 0) (Appended : List ℕ → Type 0) (events : List Event) : Type 0 where
  pub lines : List (List ℕ)
  pub ran : RanFront Ran events lines
  pub written : Appended (concat lines)

-- all of them but the last one, and a front of that
pub record IsCutOff (Ran : List Event → List (List ℕ) → Type 0) (Appended : List ℕ → Type 0) (events : List Event) : Type 0 where
  pub lines : List (List ℕ)
  pub last : List ℕ
  pub part : List ℕ
  pub lost : List ℕ
  pub ran : RanFront Ran events (lines ++ last ∷ [])
  pub cut : last ≡ part ++ lost
  pub written : Appended (concat lines ++ part)

-- `Ran` says of commands and lines that these commands ran and printed these lines, and `Appended` of a text that it was written
abbrev pub Outcome : (Ran : List Event → List (List ℕ) → Type 0) → (Appended : List ℕ → Type 0) → List Event → Result ℕ DriveError → Type 0
Outcome Ran Appended events (Ok count) = (count ≡ length events) × HasRun Ran Appended events
Outcome Ran Appended events (Err Memory) = HasRunFront Ran Appended events
Outcome Ran Appended events (Err WriteFault) = IsCutOff Ran Appended events

-- a fact unless a write failed
abbrev pub UnlessWriteFault : Result ℕ DriveError → Type 0 → Type 0
UnlessWriteFault (Ok count) P = P
UnlessWriteFault (Err Memory) P = P
UnlessWriteFault (Err WriteFault) P = Unit {0}

-- the writes of a run: none failed, or the last one did, and that stopped it
abbrev pub AreWritesOf : Result ℕ DriveError → List CallOutcome → Type 0
AreWritesOf (Ok count) added = AreTaken added
AreWritesOf (Err Memory) added = AreTaken added
AreWritesOf (Err WriteFault) added = AreRefused added

-- Which reads and writes a call makes, by its status.
use Rattle.std.specs.Prelude.{◌≡◌, ◌≢◌, ◌⊎◌, ℕ, List, [], Option, Some, None}
use Rattle.razor_base.specs.Headline.Outcomes.{CallOutcome}
use Rattle.razor_base.specs.Headline.Readings.{Reading}
use Rattle.razor_base.specs.Output.{AreRefused, AreTaken}
use Rattle.razor_base.specs.Turns.{AreTurns, AreWholeTurns, FailsLast, NoneFails}
use Rattle.command_words.specs.Commands.{Command}
use Rattle.razor_core.specs.Calls.{names_of}
use Rattle.razor_core.specs.Commands.{meaning}
use Rattle.razor_core.specs.Meaning.{Meaning, in_turn}

-- the reads of a call whose words spell this command, by its status
pub record ReadsOf (command : Meaning) (status : ℕ) (added : List Reading) : Type 0 where
  -- its file words in their turns, each piece by piece to its end; only the last turn that was begun may break off
  pub turns : AreTurns (names_of command) added
  -- 0: each of them was read to its end
  pub whole : status ≡ 0 → AreWholeTurns (names_of command) added
  -- 5: the last read failed; else none did, but with 6 in a command that writes while it reads
  pub failed : status ≡ 5 → FailsLast added
  pub unfailed : status ≢ 5 → (status ≢ 6) ⊎ (command.writes ≢ in_turn) → NoneFails added

-- and of one whose words may spell none
abbrev pub AreReads : Option Command → ℕ → List Reading → Type 0
AreReads None status added = added ≡ []
AreReads (Some command) status added = ReadsOf (meaning command) status added

-- the writes of a call, by its status: 6 where the last one failed, and else none did
pub record AreWritten (status : ℕ) (added : List CallOutcome) : Type 0 where
  pub taken : status ≢ 6 → AreTaken added
  pub refused : status ≡ 6 → AreRefused added

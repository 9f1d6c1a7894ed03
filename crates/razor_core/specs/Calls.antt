-- Which reads and writes a command makes.
use Rattle.std.specs.Prelude.{ℕ, List, map}
use Rattle.razor_base.specs.Headline.Outcomes.{CallOutcome, Extends}
use Rattle.razor_base.specs.Headline.Readings.{Reading}
use Rattle.razor_base.specs.Output.{AreRefused, AreTaken}
use Rattle.razor_base.specs.Turns.{ArePieces, AreTurns, AreWholeTurns, FailsLast, IsFailedTurn, IsUnfailed, IsWholeTurn, NoneFails}
use Rattle.razor_core.specs.Meaning.{Meaning, Writing, in_turn}
use Rattle.razor_core.specs.declared.ending.Ending.{Ending}
use Rattle.razor_core.specs.declared.ending.Ending.TheVariants.{Done, No, BadLine as Bad, TooLong, TooMany, ReadFault, WriteFault, Memory}

-- the file words of a command, in their turns
abbrev pub names_of : Meaning → List (List ℕ)
names_of command = map (λ input. input.name) command.inputs

-- the names in their turns, of which the last one that was begun may have broken off, but by no read that failed
abbrev pub AreUnfailedTurns : List (List ℕ) → List Reading → Type 0
AreUnfailedTurns names added = AreTurns names added × NoneFails added

-- where a write failed: a command that writes while it reads its last input may have met a read that failed before
abbrev pub EndsCut : Writing → List (List ℕ) → List Reading → Type 0
EndsCut in_turn names added = AreTurns names added
EndsCut writes names added = AreUnfailedTurns names added

-- the reads of a command over inputs of these names, by when it writes and how it ends
abbrev pub EndsReads : Writing → List (List ℕ) → Ending → List Reading → Type 0
EndsReads writes names (Done summary) added = AreWholeTurns names added
EndsReads writes names No added = AreUnfailedTurns names added
EndsReads writes names (Bad file line reason) added = AreUnfailedTurns names added
EndsReads writes names (TooLong file limit) added = AreUnfailedTurns names added
EndsReads writes names (TooMany needed limit) added = AreUnfailedTurns names added
EndsReads writes names (ReadFault file) added = AreTurns names added × FailsLast added
EndsReads writes names WriteFault added = EndsCut writes names added
EndsReads writes names Memory added = AreUnfailedTurns names added

-- its writes, by how it ends
abbrev pub EndsWrites : Ending → List CallOutcome → Type 0
EndsWrites (Done summary) added = AreTaken added
EndsWrites No added = AreTaken added
EndsWrites (Bad file line reason) added = AreTaken added
EndsWrites (TooLong file limit) added = AreTaken added
EndsWrites (TooMany needed limit) added = AreTaken added
EndsWrites (ReadFault file) added = AreTaken added
EndsWrites WriteFault added = AreRefused added
EndsWrites Memory added = AreTaken added

-- a command over inputs of these names makes these reads and writes
pub record MakesCalls (writes : Writing) (names : List (List ℕ)) (reads_before reads_after : List Reading) (writes_before writes_after : List CallOutcome) (ending : Ending) : Type 0 where
  pub reads : Extends reads_before reads_after (EndsReads writes names ending)
  pub written : Extends writes_before writes_after (EndsWrites ending)

-- the reads of inputs of these names, where the turn of one of them ends the command, or want of memory does behind one
abbrev pub EndsAmong : List (List ℕ) → Ending → List Reading → Type 0
EndsAmong names (Done summary) added = ⊥
EndsAmong names No added = ⊥
EndsAmong names (Bad file line reason) added = AreUnfailedTurns names added
EndsAmong names (TooLong file limit) added = AreUnfailedTurns names added
EndsAmong names (TooMany needed limit) added = ⊥
EndsAmong names (ReadFault file) added = AreTurns names added × FailsLast added
EndsAmong names WriteFault added = ⊥
EndsAmong names Memory added = AreUnfailedTurns names added

-- the reads of the turn of an input that ends its command
abbrev pub EndsTurnReads : List ℕ → Ending → List Reading → Type 0
EndsTurnReads name (Done summary) added = ⊥
EndsTurnReads name No added = ⊥
EndsTurnReads name (Bad file line reason) added = IsWholeTurn name added
EndsTurnReads name (TooLong file limit) added = ArePieces name added
EndsTurnReads name (TooMany needed limit) added = ⊥
EndsTurnReads name (ReadFault file) added = IsFailedTurn name added
EndsTurnReads name WriteFault added = ⊥
EndsTurnReads name Memory added = IsUnfailed name added

-- the writes of a command behind its inputs, which ends by no input
abbrev pub WritesBehind : Ending → List CallOutcome → Type 0
WritesBehind (Done summary) added = AreTaken added
WritesBehind No added = AreTaken added
WritesBehind (Bad file line reason) added = AreTaken added
WritesBehind (TooLong file limit) added = ⊥
WritesBehind (TooMany needed limit) added = AreTaken added
WritesBehind (ReadFault file) added = ⊥
WritesBehind WriteFault added = AreRefused added
WritesBehind Memory added = AreTaken added

-- Which reads a trace takes.
use Rattle.std.specs.Prelude.{List, [], ◌∷◌, ◌++◌, ℕ, ◌⊎◌, Result, Ok, Err}
use Rattle.razor_base.specs.Headline.Readings.{Reading}
use Rattle.razor_base.specs.Turns.{ArePieces, AreTurns, AreWholeTurns, IsFailedTurn, IsUnfailed, IsWholeTurn}
use Rattle.trace_run.specs.declared.error.TraceError.{TraceError}
use Rattle.trace_run.specs.declared.error.TraceError.TheVariants as errors

-- the turn of a trace, by how that ended: where a write failed, a read may have failed before it
abbrev pub IsTurnOfTrace : {T : Type 0} → List ℕ → Result T TraceError → List Reading → Type 0
IsTurnOfTrace name (Ok value) added = IsWholeTurn name added
IsTurnOfTrace name (Err (errors.BadLine line reason)) added = IsUnfailed name added
IsTurnOfTrace name (Err errors.ReadFault) added = IsFailedTurn name added
IsTurnOfTrace name (Err errors.TooLong) added = ArePieces name added
IsTurnOfTrace name (Err errors.WriteFault) added = IsUnfailed name added ⊎ IsFailedTurn name added
IsTurnOfTrace name (Err errors.Memory) added = IsUnfailed name added

-- however a run ends, it reads the trace in one turn; behind whole turns of other names these are turns of all of them
abbrev pub TraceIsLast : Type 0
TraceIsLast = (names : List (List ℕ)) (name : List ℕ) (whole added : List Reading) (result : Result ℕ TraceError) → AreWholeTurns names whole → IsTurnOfTrace name result added → AreTurns (names ++ name ∷ []) (whole ++ added)

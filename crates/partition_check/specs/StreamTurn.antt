-- Which reads a certificate takes.
use Rattle.std.specs.Prelude.{List, ℕ, Result, Ok, Err}
use Rattle.razor_base.specs.Headline.Readings.{Reading}
use Rattle.razor_base.specs.Turns.{ArePieces, IsFailedTurn, IsUnfailed, IsWholeTurn}
use Rattle.partition_check.specs.declared.stream.Stop.{Stop}
use Rattle.partition_check.specs.declared.stream.Stop.TheVariants as stops

-- the turn of a certificate, by how its check ends: a wrong line decides where it stands
abbrev pub IsTurnOfStream : {T : Type 0} → List ℕ → Result T Stop → List Reading → Type 0
IsTurnOfStream name (Ok value) added = IsWholeTurn name added
IsTurnOfStream name (Err (stops.Wrong wrong)) added = IsUnfailed name added
IsTurnOfStream name (Err stops.ReadFault) added = IsFailedTurn name added
IsTurnOfStream name (Err stops.TooLong) added = ArePieces name added

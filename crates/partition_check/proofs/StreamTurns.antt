-- The reads of a certificate.
use Rattle.std.proofs.Common.{◌≡◌, List, ℕ, Result, Ok, Err, inl, inr, IsErrAnd}
use Rattle.razor_base.specs.Headline.Readings.{Reading}
use Rattle.razor_base.specs.Turns.{ArePieces, IsUnfailed, IsWholeTurn}
use Rattle.razor_base.specs.Headline.Outcomes.{Extends}
use Rattle.partition_check.specs.StreamTurn.{IsTurnOfStream}
use Rattle.partition_check.specs.declared.row.Wrong.{Wrong}
use Rattle.partition_check.specs.declared.stream.Stop.{Stop}
use Rattle.partition_check.specs.declared.stream.Stop.TheVariants as stops

-- a wrong line decided
pub decided : (T : Type 0) (name : List ℕ) (old after : List Reading) (wrong : Wrong) (result : Result T Stop) → IsErrAnd result (λ e. e ≡ stops.Wrong wrong) → Extends old after (IsUnfailed name) → Extends old after (λ added. IsTurnOfStream name result added)
decided T name old after wrong (Ok value) is turn = absurd is
decided T name old after wrong (Err (stops.Wrong other)) is turn = turn
decided T name old after wrong (Err stops.ReadFault) is turn = absurd cc
decided T name old after wrong (Err stops.TooLong) is turn = absurd cc

pub at_its_end : (name : List ℕ) (old after : List Reading) → Extends old after (IsWholeTurn name) → Extends old after (IsUnfailed name)
at_its_end name old after turn = (turn.0, turn.1, inl turn.2)

pub before_its_end : (name : List ℕ) (old after : List Reading) → Extends old after (ArePieces name) → Extends old after (IsUnfailed name)
before_its_end name old after turn = (turn.0, turn.1, inr turn.2)

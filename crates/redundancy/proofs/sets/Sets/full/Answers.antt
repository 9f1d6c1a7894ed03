use Rattle.std.proofs.Common.{[], ap}
use Rattle.std.specs.Prelude.{ℕ, Bool, ◌==◌, not}
use Rattle.redundancy.proofs.sets.Sets.full.Goals as goal

abbrev other_than_zero : ℕ → Bool
other_than_zero n = not (n == 0)

pub returns-clause-full : goal.returns-clause-full
returns-clause-full c = ap other_than_zero (c.in_ok-id.ensures.full.answers [] tt)

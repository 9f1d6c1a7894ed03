use Rattle.range_prefix.proofs.Halving.{is-shortest}
use Rattle.range_prefix.proofs.laws.halving_is_shortest.Goals as goal

pub returns : goal.returns
returns c = λ width set wide. is-shortest width set wide

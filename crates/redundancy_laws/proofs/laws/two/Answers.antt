use Rattle.redundancy_laws.proofs.Sequence.{sequence}
use Rattle.redundancy_laws.proofs.laws.two.Goals as goal

pub returns : goal.returns
returns c = sequence

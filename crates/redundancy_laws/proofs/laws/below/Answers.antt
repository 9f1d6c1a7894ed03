use Rattle.redundancy_laws.proofs.Below.{split-below, pairs-below}
use Rattle.redundancy_laws.proofs.laws.below.Goals as goal

pub returns : goal.returns
returns c = record { split = split-below; pairs = pairs-below }

use Rattle.redundancy_laws.proofs.Leaves.{leaf-right}
use Rattle.redundancy_laws.proofs.laws.last.Goals as goal

pub returns : goal.returns
returns c = leaf-right

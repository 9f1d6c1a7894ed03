use Rattle.redundancy_laws.proofs.Merged.{merged}
use Rattle.redundancy_laws.proofs.laws.merged.Goals as goal

pub returns : goal.returns
returns c = merged

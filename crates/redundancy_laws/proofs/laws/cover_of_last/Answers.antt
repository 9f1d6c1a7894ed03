use Rattle.redundancy_laws.proofs.Covers.{cover-last}
use Rattle.redundancy_laws.proofs.laws.cover_of_last.Goals as goal

pub returns : goal.returns
returns c = cover-last

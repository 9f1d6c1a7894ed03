use Rattle.redundancy_laws.proofs.Covers.{cover-two}
use Rattle.redundancy_laws.proofs.laws.cover_of_two.Goals as goal

pub returns : goal.returns
returns c = cover-two

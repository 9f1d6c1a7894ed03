use Rattle.redundancy_laws.proofs.Kept.{two-sifted}
use Rattle.redundancy_laws.proofs.laws.two_of_nodes.Goals as goal

pub returns : goal.returns
returns c = two-sifted

use Rattle.redundancy_laws.proofs.Kept.{last-sifted}
use Rattle.redundancy_laws.proofs.laws.last_of_nodes.Goals as goal

pub returns : goal.returns
returns c = last-sifted

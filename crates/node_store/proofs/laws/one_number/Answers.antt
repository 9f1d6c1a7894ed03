use Rattle.node_store.proofs.Canonical.{one}
use Rattle.node_store.proofs.laws.one_number.Goals as goal

pub returns : goal.returns
returns c = one

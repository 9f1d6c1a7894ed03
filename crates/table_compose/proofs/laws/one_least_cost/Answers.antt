use Rattle.table_compose.proofs.OneCost.{cost-unique}
use Rattle.table_compose.proofs.laws.one_least_cost.Goals as goal

pub returns : goal.returns
returns c = λ fields R m n h k. cost-unique fields R m n h k

use Rattle.table_compose.proofs.OneCost.{alike-cost}
use Rattle.table_compose.proofs.laws.alike_lists_cost_alike.Goals as goal

pub returns : goal.returns
returns c = λ fields R S n h k. alike-cost fields R S n h k

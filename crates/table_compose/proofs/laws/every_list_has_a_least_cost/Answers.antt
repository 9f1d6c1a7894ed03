use Rattle.table_compose.proofs.Existing.{some_cost}
use Rattle.table_compose.proofs.laws.every_list_has_a_least_cost.Goals as goal

pub returns : goal.returns
returns c = λ fields R. some_cost fields R

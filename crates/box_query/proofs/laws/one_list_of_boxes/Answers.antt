use Rattle.box_query.proofs.Alone.{one-list}
use Rattle.box_query.proofs.laws.one_list_of_boxes.Goals as goal

pub returns : goal.returns
returns c = λ rules box name boxes others a b. one-list rules box name boxes others a b

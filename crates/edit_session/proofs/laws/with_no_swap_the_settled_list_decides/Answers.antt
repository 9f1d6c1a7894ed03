use Rattle.edit_session.proofs.Settling.{settled-decides}
use Rattle.edit_session.proofs.laws.with_no_swap_the_settled_list_decides.Goals as goal

pub returns : goal.returns
returns c = λ s values idle. settled-decides s values idle

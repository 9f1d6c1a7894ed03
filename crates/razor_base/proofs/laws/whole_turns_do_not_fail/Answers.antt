use Rattle.razor_base.proofs.Joining.{whole_do_not_fail}
use Rattle.razor_base.proofs.laws.whole_turns_do_not_fail.Goals as goal

pub returns : goal.returns
returns c = whole_do_not_fail

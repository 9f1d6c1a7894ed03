use Rattle.bank_update.proofs.Turns.{old-or-new}
use Rattle.bank_update.proofs.laws.a_look_up_is_old_or_new.Goals as goal

pub returns : goal.returns
returns c = λ below s m d h small. old-or-new below s m d h small

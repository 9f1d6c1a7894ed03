use Rattle.bank_update.proofs.Looks.{look-below, look-above}
use Rattle.bank_update.proofs.laws.a_look_up_meets_what_stands.Goals as goal

pub returns-clause-below : goal.returns-clause-below
returns-clause-below c = λ s m d h small. look-below s m d h small

pub returns-clause-above : goal.returns-clause-above
returns-clause-above c = λ s m d h small. look-above s m d h small

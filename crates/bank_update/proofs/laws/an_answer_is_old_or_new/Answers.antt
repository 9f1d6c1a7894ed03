use Rattle.bank_update.proofs.OldOrNew.{looked-answer}
use Rattle.bank_update.proofs.laws.an_answer_is_old_or_new.Goals as goal

pub returns : goal.returns
returns c = λ s values sound. looked-answer s values sound

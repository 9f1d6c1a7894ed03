use Rattle.bank_update.proofs.Keeping.{settled-new, stays-new}
use Rattle.bank_update.proofs.laws.a_new_answer_stays.Goals as goal

pub returns-clause-stays : goal.returns-clause-stays
returns-clause-stays c = λ s u done back values sound pending later small apart new. stays-new s u done back values sound pending later small apart new

pub returns-clause-settled : goal.returns-clause-settled
returns-clause-settled c = λ u values. settled-new u values

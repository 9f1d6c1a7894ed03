use Rattle.agreement_check.proofs.Kept.{shown-true}
use Rattle.agreement_check.proofs.laws.valid_proofs_are_true.Goals as goal

pub returns : goal.returns
returns c = λ list table text v valid. shown-true c.first_match_answers.ensures list table text v valid

use Rattle.agreement_check.proofs.OneVerdict.{read-one, valid-apart, wrong-one}
use Rattle.agreement_check.proofs.laws.a_text_has_one_verdict.Goals as goal

pub returns : goal.returns
returns c = record { apart = valid-apart; wrong = wrong-one; limited = read-one }

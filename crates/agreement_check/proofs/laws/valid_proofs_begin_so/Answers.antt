use Rattle.agreement_check.proofs.Begins.{begins-so}
use Rattle.agreement_check.proofs.laws.valid_proofs_begin_so.Goals as goal

pub returns : goal.returns
returns c = begins-so

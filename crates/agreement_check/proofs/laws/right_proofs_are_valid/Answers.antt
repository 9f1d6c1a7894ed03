use Rattle.agreement_check.proofs.RightProofs.{right-valid}
use Rattle.agreement_check.proofs.laws.right_proofs_are_valid.Goals as goal

pub returns : goal.returns
returns c = right-valid

use Rattle.agreement_check.proofs.SeenAlike.{right-or-wrong}
use Rattle.agreement_check.proofs.laws.equal_lists_have_one_verdict.Goals as goal

pub returns : goal.returns
returns c = λ a b s t limit text w rules entries. right-or-wrong a b s t rules entries limit text w

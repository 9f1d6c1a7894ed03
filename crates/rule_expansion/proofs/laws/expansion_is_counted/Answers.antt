use Rattle.rule_expansion.proofs.Deciding.{counted}
use Rattle.rule_expansion.proofs.laws.expansion_is_counted.Goals as goal

pub returns : goal.returns
returns c = λ rules. counted rules

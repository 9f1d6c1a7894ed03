use Rattle.rule_expansion.proofs.Naming.{same_count}
use Rattle.rule_expansion.proofs.laws.names_count_alike.Goals as goal

pub returns : goal.returns
returns c = λ names rules. same_count names rules

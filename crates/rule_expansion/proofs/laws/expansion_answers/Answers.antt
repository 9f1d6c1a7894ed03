use Rattle.rule_expansion.proofs.Deciding.{answers}
use Rattle.rule_expansion.proofs.laws.expansion_answers.Goals as goal

pub returns : goal.returns
returns c = λ rules values is. answers c.halving_is_shortest.ensures c.prefixes_match.ensures rules values is

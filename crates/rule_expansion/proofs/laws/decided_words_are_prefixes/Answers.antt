use Rattle.rule_expansion.proofs.Prefixed.{are_prefixes}
use Rattle.rule_expansion.proofs.laws.decided_words_are_prefixes.Goals as goal

pub returns : goal.returns
returns c = λ rules entries same. are_prefixes c.halving_is_shortest.ensures rules entries same

use Rattle.rule_expansion.proofs.Naming.{are_entries}
use Rattle.rule_expansion.proofs.laws.decided_words_are_entries.Goals as goal

pub returns : goal.returns
returns c = λ names rules entries same numbered. are_entries names rules entries same numbered

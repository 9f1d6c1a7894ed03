use Rattle.filter_reader.proofs.FirstNames.{numbers_by_names}
use Rattle.filter_reader.proofs.laws.numbers_follow_names.Goals as goal

pub returns : goal.returns
returns c = λ a b e f rules. numbers_by_names a.names b.names a.rules.items b.rules.items a.numbered b.numbered e f rules

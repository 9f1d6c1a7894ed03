use Rattle.filter_reader.proofs.ListTexts.{list_of-text}
use Rattle.filter_reader.proofs.laws.written_rules_are_read.Goals as goal

pub returns : goal.returns
returns c = λ names rules spelled few named. list_of-text names rules spelled named few

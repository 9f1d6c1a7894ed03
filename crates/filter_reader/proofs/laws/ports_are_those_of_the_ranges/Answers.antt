use Rattle.filter_reader.proofs.KeptRanges.{ports_are_united}
use Rattle.filter_reader.proofs.laws.ports_are_those_of_the_ranges.Goals as goal

pub returns : goal.returns
returns c = λ ranges set e. ports_are_united ranges set e

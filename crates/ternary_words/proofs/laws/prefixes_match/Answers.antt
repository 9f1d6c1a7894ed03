use Rattle.field_boxes.specs.Headline.Fields.{stated}
use Rattle.ternary_words.proofs.PrefixHolds.{agrees-fields}
use Rattle.ternary_words.proofs.laws.prefixes_match.Goals as goal

pub returns : goal.returns
returns c = λ prefixes values fits are. agrees-fields stated prefixes values fits are

use Rattle.field_boxes.specs.Headline.Fields.{stated}
use Rattle.box_query.proofs.Apart.{rows-apart}
use Rattle.box_query.proofs.laws.boxes_are_apart.Goals as goal

pub returns : goal.returns
returns c = λ rules box name boxes header a. rows-apart stated boxes header a.grouped

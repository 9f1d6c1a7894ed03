use Rattle.std.proofs.Common.{◌∷◌, [], arith}
use Rattle.field_boxes.specs.Spans.{interval_of}
use Rattle.field_boxes.proofs.SameValues.{same_list_from}
use Rattle.list_generator.proofs.sets.ports.Goals as goal

pub returns : goal.returns
returns c =
    let found = c.in-Some.ensures in
    same_list_from 0 65535 c.in-Some.ports (interval_of c.args.span ∷ []) found.ports.rise (omega arith, c.args.span.ordered, c.requires, tt) found.same

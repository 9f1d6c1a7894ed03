use Rattle.field_boxes.proofs.Filled.{empty}
use Rattle.field_boxes.proofs.span_list.SpanList.new.Goals as goal

pub invariant_of-result-2 : goal.invariant_of-result-2
invariant_of-result-2 c = empty _

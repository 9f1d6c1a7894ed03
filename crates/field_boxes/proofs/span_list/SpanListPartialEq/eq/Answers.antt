use Rattle.std.proofs.Common.{rules}
use Rattle.field_boxes.proofs.Filled.{equal_by}
use Rattle.field_boxes.proofs.span_list.SpanListPartialEq.eq.Goals as goal

pub returns : goal.returns
returns c = search (rules, equal_by)

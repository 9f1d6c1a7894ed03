use Rattle.std.proofs.Common.{length}
use Rattle.field_boxes.proofs.field_order.+are_distinct.Given as goal

abbrev pub decreases-are_distinct : goal.decreases-are_distinct
decreases-are_distinct l = length l.fields.now

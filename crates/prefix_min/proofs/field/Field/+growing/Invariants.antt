use Rattle.std.proofs.Common.{◌+◌, ◌-◌, ◌*◌}
use Rattle.prefix_min.specs.Growth.{done_of}
use Rattle.prefix_min.proofs.Grown.{IsGrown}
use Rattle.prefix_min.proofs.field.Field.+growing.Given as goal

abbrev pub decreases-apart : goal.decreases-apart
decreases-apart g l = 3 * l.bits + 2

abbrev pub decreases-beside : goal.decreases-beside
decreases-beside g l = 3 * l.part.bits + 3

abbrev pub decreases-grown : goal.decreases-grown
decreases-grown g l = 3 * l.bits + 1

abbrev pub invariant-grown-loop-part : goal.invariant-grown-loop-part
invariant-grown-loop-part g l = IsGrown g.K.Keeping.KEEPS l.fn.self.weights.now l.fn.self.pieces.now l.fn.bits l.fn.low l.first l.part (done_of l.fn.stack) (done_of l.stack) l.stack.next

abbrev pub decreases-grown-loop-part : goal.decreases-grown-loop-part
decreases-grown-loop-part g l = l.bits - l.part.bits

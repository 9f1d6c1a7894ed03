use Rattle.std.proofs.Common.{◌+◌, ◌*◌, drop, length}
use Rattle.fdd_ops.specs.Agreed.{AreAgreed, KeepsPairs}
use Rattle.fdd_ops.proofs.Meeting.{AllAgree, OneDiffers}
use Rattle.fdd_ops.proofs.question.Question.+walk.Given as goal

abbrev pub decreases-pair : goal.decreases-pair
decreases-pair l = 4 * (1 + length l.level.now) + 2

abbrev pub decreases-worked_out : goal.decreases-worked_out
decreases-worked_out l = 4 * (1 + length l.level.now) + 1

abbrev pub decreases-parts : goal.decreases-parts
decreases-parts l = 4 * (1 + length l.level.now) + 4

abbrev pub decreases-part : goal.decreases-part
decreases-part l = 4 * (1 + length l.level.now) + 3

abbrev pub invariant-parts-loop-part : goal.invariant-parts-loop-part
invariant-parts-loop-part l = record {
  agreed : AreAgreed l.self l.store l.agreed;
  earlier : KeepsPairs l.fn.agreed l.agreed;
  yes : AllAgree l.self l.store l.span (drop l.part-index l.parts) → AllAgree l.self l.store l.span l.parts;
  no : OneDiffers l.self l.store l.span (drop l.part-index l.parts) → OneDiffers l.self l.store l.span l.parts;
}

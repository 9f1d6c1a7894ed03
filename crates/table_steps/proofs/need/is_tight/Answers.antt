use Rattle.std.proofs.Common.{arith}
use Rattle.std.proofs.lemmas.Bool.{OnTrue_at}
use Rattle.std.specs.List.{remove}
use Rattle.field_boxes.specs.Alike.{AreApart}
use Rattle.ternary_words.specs.Entries.{answer}
use Rattle.table_steps.proofs.Kept.{each-next}
use Rattle.table_steps.proofs.need.is_tight.Goals as goal

pub loop-place-preserved : goal.loop-place-preserved
loop-place-preserved c =
    each-next (λ k. AreApart (answer (remove c.args.table.now k)) (answer c.args.table.now)) c.loop-place.place c.loop-place.invariant
    (OnTrue_at c.if-not-branch.false c.in_ok-is_needed.ensures)

pub returns : goal.returns
returns c = λ k h. c.loop-place.invariant k (omega (arith, h, c.loop-place-test.false))

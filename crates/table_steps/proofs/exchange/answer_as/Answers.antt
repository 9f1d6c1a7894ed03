use Rattle.std.proofs.Common.{take}
use Rattle.std.proofs.lemmas.Bool.{OnTrue_at}
use Rattle.table_steps.specs.Free.{words_of}
use Rattle.table_steps.proofs.Behind.{free-answering}
use Rattle.table_steps.proofs.Exchanged.{answer_as-next}
use Rattle.table_steps.proofs.exchange.answer_as.Goals as goal

pub loop-place-preserved : goal.loop-place-preserved
loop-place-preserved c =
    let e = c.index-new-place.result in
    let hidden = words_of (take c.loop-place.place c.args.new.now) in
    let some = c.deref.result.now in (
      answer_as-next c.args.new.now c.args.table.now e c.loop-place.place c.loop-place-test.true c.index-new-place.is
          (free-answering hidden some c.args.table.now e.word e.decision (rw (← c.deref.ensures.value) at c.in_ok-some.ensures.answer) (OnTrue_at c.if-not-branch.false c.in_ok-is_answered.ensures)) c.loop-place.invariant.0,
      c.in_ok-some.ensures.parts,
    )

use Rattle.table_steps.proofs.Openings.{opening-apart, opening-same, opening-inside}
use Rattle.table_steps.proofs.free.opening.Goals as goal
use Rattle.table_steps.proofs.free.opening.Goals.{then-meets+else-entry-decision+else-inside, else-meets}

pub returns-then-inside : goal.returns-then-inside
returns-then-inside c =
    opening-inside c.args.entries.now c.args.word.now c.args.decision c.loop-place.place c.index-entries-place.result c.loop-place-test.true c.index-entries-place.is
    c.if-entry-decision.false c.if-inside.ensures.covers c.loop-place.invariant

pub loop-place-preserved : goal.loop-place-preserved
loop-place-preserved c =
    elim c.if-meets.branch [
      | then-meets+else-entry-decision+else-inside w ↦ opening-same c.args.entries.now c.args.word.now c.args.decision c.loop-place.place c.index-entries-place.result
          c.loop-place-test.true c.index-entries-place.is w.if-entry-decision.false c.loop-place.invariant
      | else-meets w ↦ opening-apart c.args.entries.now c.args.word.now c.args.decision c.loop-place.place c.index-entries-place.result
          c.loop-place-test.true c.index-entries-place.is w.if-meets.ensures.apart c.loop-place.invariant
    ]

use Rattle.table_steps.specs.Free.{words_of}
use Rattle.table_steps.proofs.Behind.{behind-past, behind-more, behind-last, behind-all}
use Rattle.table_steps.proofs.answering.answering.Goals as goal
use Rattle.table_steps.proofs.answering.answering.Goals.{then-matters+in_ok-push+in_ok-push-2+else-inside, else-matters}

pub returns-then-inside : goal.returns-then-inside
returns-then-inside c =
    behind-last (words_of c.args.before.now) c.loop-place.some.items c.push-then-matters.new.self.items c.args.rest.now c.args.word.now c.index-rest-place.result c.loop-place.place
    c.loop-place-test.true c.index-rest-place.is c.in_ok-push-2.ensures.items c.if-inside.ensures.covers c.loop-place.invariant

pub loop-place-preserved : goal.loop-place-preserved
loop-place-preserved c =
    elim c.if-matters.branch [
      | then-matters+in_ok-push+in_ok-push-2+else-inside w ↦ behind-more (words_of c.args.before.now) c.loop-place.some.items c.if-matters.some.items c.args.rest.now c.args.word.now c.index-rest-place.result c.loop-place.place
          c.loop-place-test.true c.index-rest-place.is (rw w.some-is w.in_ok-push-2.ensures.items) c.loop-place.invariant
      | else-matters w ↦ rw w.some-is (behind-past (words_of c.args.before.now) c.loop-place.some.items c.args.rest.now c.args.word.now c.index-rest-place.result c.loop-place.place
          c.loop-place-test.true c.index-rest-place.is w.if-matters.ensures c.loop-place.invariant)
    ]

pub returns : goal.returns
returns c =
    behind-all (words_of c.args.before.now) c.loop-place.some.items c.args.rest.now c.args.word.now c.loop-place.place c.loop-place-test.false c.loop-place.invariant

use Rattle.table_steps.proofs.Among.{among-next}
use Rattle.table_steps.proofs.gathering.push_words.Goals as goal

pub loop-other-preserved : goal.loop-other-preserved
loop-other-preserved c =
    among-next c.loop-other.above.items c.args.above.now.items c.push_meeting.new.above.items c.args.words.now c.other-item.result c.loop-other.other-index
    c.loop-other-test.true c.other-item.is c.in_ok-push_meeting.ensures c.loop-other.invariant

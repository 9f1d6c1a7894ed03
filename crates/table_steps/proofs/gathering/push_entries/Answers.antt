use Rattle.table_steps.proofs.Among.{among-next_entry}
use Rattle.table_steps.proofs.gathering.push_entries.Goals as goal

pub loop-entry-preserved : goal.loop-entry-preserved
loop-entry-preserved c =
    among-next_entry c.loop-entry.above.items c.args.above.now.items c.push_meeting.new.above.items c.args.entries.now c.entry-item.result c.loop-entry.entry-index
    c.loop-entry-test.true c.entry-item.is c.in_ok-push_meeting.ensures c.loop-entry.invariant

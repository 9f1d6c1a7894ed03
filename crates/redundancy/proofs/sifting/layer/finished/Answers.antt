use Rattle.std.proofs.Common.{arith}
use Rattle.redundancy.proofs.LayerDrafts.{finished_more}
use Rattle.redundancy.proofs.sifting.layer.finished.Goals as goal

pub loop-place-preserved : goal.loop-place-preserved
loop-place-preserved c =
    let i = c.loop-place.invariant in
    let p = finished_more c.args.sets.now c.loop-place.sets c.laid.new.self c.args.level.now c.args.contexts.now c.args.changes.now c.as_slice.result.now c.gather.new.placed.items c.in_ok-node.node c.loop-place.after.items
    c.push.new.self.items c.loop-place.place c.requires.level i.grows c.in_ok-node.ensures.grows c.requires.contexts (omega (arith, c.loop-place-test.true)) c.as_slice.ensures.value c.in_ok-gather.ensures c.requires.numbers
    c.in_ok-node.ensures.level c.in_ok-node.ensures.answers i.count i.each c.in_ok-push.ensures.items in
    record { grows = p.0; count = p.1; each = p.2 }

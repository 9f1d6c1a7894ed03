use Rattle.redundancy.proofs.Ends.{behind_next}
use Rattle.std.proofs.Common.{arith}
use Rattle.node_store.proofs.Growth.{twice}
use Rattle.redundancy.proofs.contexts.behind_cover.Goals as goal

pub loop-pair-preserved : goal.loop-pair-preserved
loop-pair-preserved c =
    let i = c.loop-pair.invariant in
    let p = behind_next c.args.sets.now c.loop-pair.sets c.union.new.self c.args.cover.level.now c.args.cover.set c.in_ok-met.met c.args.contexts.now c.loop-pair.pairs.items c.push.new.self.items c.loop-pair.pair-index
    c.requires.within i.grows c.in_ok-met.ensures.grows c.requires.cover c.requires.contexts (omega arith) i.count i.level i.each c.in_ok-met.ensures.level c.in_ok-met.ensures.union c.in_ok-push.ensures.ok in
    record { grows = twice c.args.sets.now c.loop-pair.sets c.union.new.self i.grows c.in_ok-met.ensures.grows; count = p.0; level = p.1; each = p.2 }

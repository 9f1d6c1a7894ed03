use Rattle.std.proofs.Common.{length, arith, ap}
use Rattle.node_store.specs.declared.edge.Edge.{Edge}
use Rattle.node_store.proofs.merge.count.Goals as goal
use Rattle.node_store.proofs.merge.count.Goals.{then-stays, else-stays}

pub loop-place-preserved : goal.loop-place-preserved
loop-place-preserved c =
    let none : Edge = record { hi = 0; to = record { 0 = 0 } } in
    let before = c.loop-place.invariant in
    elim c.if-stays.branch [
      | then-stays w ↦ (omega (arith, w.count-is, ap length (w.if-stays.ensures none), before.0), omega (arith, w.count-is, before.1))
      | else-stays w ↦ (omega (arith, w.count-is, ap length (w.if-stays.ensures none), before.0), omega (arith, w.count-is, before.1))
    ]

use Rattle.std.proofs.Common.{length}
use Rattle.node_store.specs.Levels.{top_of}
use Rattle.node_store.specs.Diagram.{level_of, edges_of}
use Rattle.fdd_ops.proofs.Fronts.{AreLeft}
use Rattle.fdd_ops.proofs.parting.first_parting.Given as goal

abbrev pub invariant-loop-start : goal.invariant-loop-start
invariant-loop-start l =
    AreLeft (top_of (level_of l.store l.fn.a.0)) (edges_of l.store l.fn.a.0) (edges_of l.store l.fn.b.0) l.start l.left l.right

abbrev pub decreases-loop-start : goal.decreases-loop-start
decreases-loop-start l = length l.left

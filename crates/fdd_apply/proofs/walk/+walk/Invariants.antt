use Rattle.std.proofs.Common.{◌+◌, ◌*◌, length, take}
use Rattle.std.specs.List.{AllZip}
use Rattle.node_store.specs.Store.{Grows}
use Rattle.fdd_apply.specs.Applied.{IsAppliedPart}
use Rattle.fdd_apply.specs.Results.{AreResults, KeepsPairs}
use Rattle.fdd_apply.proofs.walk.+walk.Given as goal

abbrev pub decreases-applied : goal.decreases-applied
decreases-applied g l = 4 * (1 + length l.level.now) + 2

abbrev pub decreases-recalled : goal.decreases-recalled
decreases-recalled g l = 4 * (1 + length l.level.now) + 1

abbrev pub decreases-worked_out : goal.decreases-worked_out
decreases-worked_out g l = 4 * (1 + length l.level.now)

abbrev pub decreases-edges : goal.decreases-edges
decreases-edges g l = 4 * (1 + length l.level.now) + 3

abbrev pub invariant-edges-loop-part : goal.invariant-edges-loop-part
invariant-edges-loop-part g l = record {
  grows : Grows l.fn.store l.store;
  earlier : KeepsPairs l.fn.results l.results;
  results : AreResults (g.O.Operation.combined l.operation) l.store l.results;
  applied : AllZip (IsAppliedPart (g.O.Operation.combined l.operation) l.store) (take l.part-index l.parts) l.edges.items;
}

use Rattle.std.proofs.Common.{◌+◌, ◌*◌, length, take}
use Rattle.std.specs.List.{AllZip}
use Rattle.node_store.specs.Store.{Grows}
use Rattle.field_order.specs.Fronts.{AreFronts, IsFrontEdge}
use Rattle.field_order.proofs.front.+fronting.Given as goal

abbrev pub decreases-front : goal.decreases-front
decreases-front l = 3 * (1 + length l.level.now) + 2

abbrev pub decreases-crossed : goal.decreases-crossed
decreases-crossed l = 3 * (1 + length l.level.now) + 1

abbrev pub decreases-front_edges : goal.decreases-front_edges
decreases-front_edges l = 3 * (1 + length l.level.now) + 3

abbrev pub invariant-front_edges-loop-edge : goal.invariant-front_edges-loop-edge
invariant-front_edges-loop-edge l = record {
  grows : Grows l.fn.store l.store;
  fronts : AreFronts l.store l.fronts;
  edges : AllZip (IsFrontEdge l.store l.field) (take l.edge-index l.edge-items) l.fronted.items;
}

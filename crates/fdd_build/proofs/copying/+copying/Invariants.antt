use Rattle.std.proofs.Common.{◌≡◌, ◌+◌, ◌*◌, length, take}
use Rattle.std.specs.List.{AllZip}
use Rattle.node_store.specs.Store.{Grows}
use Rattle.fdd_build.specs.Copies.{IsEdgeCopy, AreCopies}
use Rattle.fdd_build.proofs.copying.+copying.Given as goal

abbrev pub decreases-copy : goal.decreases-copy
decreases-copy l = 2 * l.id.0 + 1

abbrev pub decreases-made : goal.decreases-made
decreases-made l = 2 * l.id.0

abbrev pub invariant-made-loop-edge : goal.invariant-made-loop-edge
invariant-made-loop-edge l = record {
  grows : Grows l.fn.store l.store;
  count : length l.copies ≡ length l.from;
  copies : AreCopies l.from l.store l.copies;
  edges : AllZip (IsEdgeCopy l.from l.store) (take l.edge-index l.edges) l.copied.items;
}

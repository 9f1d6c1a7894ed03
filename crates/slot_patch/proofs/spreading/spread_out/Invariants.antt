use Rattle.std.proofs.Common.{◌≤◌, ◌+◌, ◌-◌, length}
use Rattle.slot_patch.specs.Merging.{entries_at}
use Rattle.slot_patch.proofs.Merges.{AreSpread}
use Rattle.slot_patch.proofs.spreading.spread_out.Given as goal

abbrev pub invariant-loop-place : goal.invariant-loop-place
invariant-loop-place l = record {
  room : length l.spread.next.items + (length l.compact.start.items - l.place) ≤ l.slots;
  spread : AreSpread l.place (entries_at l.old l.compact.start.items) (entries_at l.new l.compact.next.items) l.spread;
}

use Rattle.std.proofs.Common.{◌≡◌, ◌++◌, drop}
use Rattle.slot_patch.specs.Layouts.{free_slots}
use Rattle.slot_patch.proofs.beside.into_free.Given as goal

abbrev pub invariant-loop-slot : goal.invariant-loop-slot
invariant-loop-slot l = l.next.items ++ free_slots (drop l.slot-index l.held) l.rest ≡ free_slots l.held l.table

use Rattle.std.proofs.Common.{◌≡◌, take}
use Rattle.bank_update.specs.Standing.{entries_in}
use Rattle.slot_patch.specs.Ordered.{places}
use Rattle.slot_patch.proofs.standing.standing_in.Given as goal

abbrev pub invariant-loop-slot : goal.invariant-loop-slot
invariant-loop-slot l = record {
  slots : l.standing.slots.items ≡ places 0 (take l.slot l.held);
  entries : l.standing.entries.items ≡ entries_in (take l.slot l.held);
}

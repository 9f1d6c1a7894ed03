use Rattle.std.proofs.Common.{◌++◌, ◌≤◌, drop, length}
use Rattle.bank_update.specs.Standing.{Bank}
use Rattle.slot_patch.specs.Plans.{IsPatch}
use Rattle.slot_patch.proofs.joining.joined.Given as goal

abbrev pub invariant-loop-write : goal.invariant-loop-write
invariant-loop-write l = record {
  patch : (old new : Bank) → IsPatch old new l.write-items → IsPatch old new (l.writes.items ++ drop l.write-index l.write-items);
  fewer : length l.writes.items ≤ l.write-index;
}

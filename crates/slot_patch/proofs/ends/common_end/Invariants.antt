use Rattle.std.proofs.Common.{◌-◌, length}
use Rattle.slot_patch.specs.Sharing.{AreShared, run}
use Rattle.slot_patch.proofs.ends.common_end.Given as goal

abbrev pub invariant-loop-done : goal.invariant-loop-done
invariant-loop-done l = AreShared l.old l.new (length l.old - l.done) (length l.new - l.done) (run (length l.old - l.done) (length l.new - l.done) l.done)

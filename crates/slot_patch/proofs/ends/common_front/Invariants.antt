use Rattle.slot_patch.specs.Sharing.{AreShared, run}
use Rattle.slot_patch.proofs.ends.common_front.Given as goal

abbrev pub invariant-loop-place : goal.invariant-loop-place
invariant-loop-place l = AreShared l.old l.new 0 0 (run 0 0 l.place)

use Rattle.bit_merge.proofs.Filled.{AreFilled}
use Rattle.bit_merge.proofs.places.Places.of.Given as goal

abbrev pub invariant-loop-place : goal.invariant-loop-place
invariant-loop-place l = AreFilled l.run l.places l.place

abbrev pub decreases-loop-place : goal.decreases-loop-place
decreases-loop-place l = l.place

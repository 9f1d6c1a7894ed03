use Rattle.std.proofs.Common.{None, Some, length, set}
use Rattle.bit_merge.specs.Slots.{entries_of}
use Rattle.bit_merge.proofs.Held.{IsHeld}
use Rattle.bit_merge.proofs.merging.settle.Given as goal

abbrev pub invariant-loop-join : goal.invariant-loop-join
invariant-loop-join l = IsHeld (set l.fn.places l.taken (Some l.fn.word)) l.taken l.places l.place l.hand

abbrev pub decreases-loop-join : goal.decreases-loop-join
decreases-loop-join l = length (entries_of None l.places)

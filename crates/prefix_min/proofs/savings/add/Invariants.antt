use Rattle.std.proofs.Common.{◌+◌, length}
use Rattle.prefix_min.proofs.Listed.{AreAdded}
use Rattle.prefix_min.proofs.savings.add.Given as goal

abbrev pub invariant-loop-label : goal.invariant-loop-label
invariant-loop-label l = AreAdded l.fn.weights l.fn.low l.fn.high l.sums.items l.low l.high l.gain

abbrev pub decreases-loop-label : goal.decreases-loop-label
decreases-loop-label l = length l.low + length l.high

use Rattle.std.proofs.Common.{◌≡◌, ◌++◌, drop}
use Rattle.prefix_min.specs.Savings.{lowered}
use Rattle.prefix_min.proofs.savings.lower.Given as goal

abbrev pub invariant-loop-entry : goal.invariant-loop-entry
invariant-loop-entry l = l.savings.items ++ lowered l.gain (drop l.entry-index l.sums) ≡ l.initial.savings.items ++ lowered l.gain l.sums

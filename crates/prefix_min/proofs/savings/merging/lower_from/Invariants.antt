use Rattle.std.proofs.Common.{◌≡◌, ◌++◌, ◌≤◌, drop, length, take}
use Rattle.prefix_min.specs.Savings.{lowered}
use Rattle.prefix_min.proofs.savings.merging.lower_from.Given as goal

abbrev pub invariant-loop-place : goal.invariant-loop-place
invariant-loop-place l = (l.kept ≤ l.place) × (length l.savings.items ≡ length l.initial.savings.items)
    × (take l.kept l.savings.items ++ lowered l.gain (drop l.place l.savings.items) ≡ take l.start l.initial.savings.items ++ lowered l.gain (drop l.start l.initial.savings.items))

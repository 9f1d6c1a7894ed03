use Rattle.std.proofs.Common.{◌≡◌, ◌+◌, drop}
use Rattle.prefix_min.specs.Merging.{count_below}
use Rattle.prefix_min.proofs.savings.merging.count_below.Given as goal

abbrev pub invariant-loop-entry : goal.invariant-loop-entry
invariant-loop-entry l = (l.count ≡ l.entry-index) × (l.count + count_below l.label (drop l.entry-index l.savings) ≡ count_below l.label l.savings)

use Rattle.std.proofs.Common.{◌≡◌, ◌++◌, drop}
use Rattle.prefix_min.specs.Savings.{further}
use Rattle.prefix_min.proofs.savings.put_further.Given as goal

abbrev pub invariant-loop-entry : goal.invariant-loop-entry
invariant-loop-entry l = l.also.items ++ further l.gain.gain l.gain.best (drop l.entry-index l.sums) ≡ l.initial.also.items ++ further l.gain.gain l.gain.best l.sums

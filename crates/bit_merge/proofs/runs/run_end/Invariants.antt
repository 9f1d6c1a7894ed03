use Rattle.std.proofs.Common.{◌≡◌, ◌<◌, ◌≤◌, ◌-◌, ℕ, length}
use Rattle.bit_merge.specs.Runs.{decision_at}
use Rattle.bit_merge.proofs.runs.run_end.Given as goal

abbrev pub invariant-loop-end : goal.invariant-loop-end
invariant-loop-end l = record {
  more : l.start < l.end;
  within : l.end ≤ length l.entries;
  one : (k : ℕ) → l.start ≤ k → k < l.end → decision_at l.entries k ≡ l.decision;
}

abbrev pub decreases-loop-end : goal.decreases-loop-end
decreases-loop-end l = length l.entries - l.end

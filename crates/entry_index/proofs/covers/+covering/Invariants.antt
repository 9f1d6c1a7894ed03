use Rattle.std.proofs.Common.{◌+◌, ◌*◌, ◌≤◌}
use Rattle.entry_index.proofs.covers.+covering.Given as goal

-- each split counts down, and a part takes one at least
abbrev pub decreases-covered_beside : goal.decreases-covered_beside
decreases-covered_beside l = 2 * l.splits.now + 1

abbrev pub decreases-covered_in : goal.decreases-covered_in
decreases-covered_in l = 2 * l.splits.now

abbrev pub invariant-covered_beside-loop : goal.invariant-covered_beside-loop
invariant-covered_beside-loop l = l.splits ≤ l.fn.splits

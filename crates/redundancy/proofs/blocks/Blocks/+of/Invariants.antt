use Rattle.std.proofs.Common.{◌≡◌, ◌+◌, ◌*◌, ◌++◌, List, length, map}
use Rattle.redundancy_laws.specs.Built.{row_at}
use Rattle.redundancy_laws.specs.Rows.{Row}
use Rattle.redundancy.specs.Lists.{AreGathered}
use Rattle.redundancy.proofs.blocks.Blocks.+of.Given as goal

abbrev pub decreases-of : goal.decreases-of
decreases-of l = 3 * length l.level.now + 2

abbrev pub decreases-of_fields : goal.decreases-of_fields
decreases-of_fields l = 3 * length l.level.now + 1

abbrev pub decreases-gather : goal.decreases-gather
decreases-gather l = 3 * length l.level.now

-- what was gathered are the entries that aren't left
abbrev pub invariant-gather-runs : goal.invariant-gather-runs
invariant-gather-runs l = (done : List Row) × (map (row_at l.level) l.entries ≡ done ++ map (row_at l.level) l.rest) ×
    AreGathered l.initial.sets l.sets l.initial.self l.self l.initial.lists l.lists l.level done l.list l.runs.items

abbrev pub decreases-gather-runs : goal.decreases-gather-runs
decreases-gather-runs l = length l.rest

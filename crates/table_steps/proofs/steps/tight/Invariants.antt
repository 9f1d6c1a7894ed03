use Rattle.std.proofs.Common.{◌≤◌, length}
use Rattle.table_steps.specs.Shortened.{IsShortened}
use Rattle.table_steps.proofs.steps.tight.Given as goal

abbrev pub invariant-loop-place : goal.invariant-loop-place
invariant-loop-place l = (l.place ≤ length l.table.items) × IsShortened l.initial.table.items l.table.items

abbrev pub decreases-loop-place : goal.decreases-loop-place
decreases-loop-place l = l.place

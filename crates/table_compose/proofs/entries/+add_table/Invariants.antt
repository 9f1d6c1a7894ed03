use Rattle.std.proofs.Common.{length, take}
use Rattle.node_store.specs.Levels.{next}
use Rattle.table_compose.specs.Rows.{rows_of, rows_at}
use Rattle.table_compose.specs.Composed.{Gains, boxes, in_turn}
use Rattle.table_compose.proofs.entries.+add_table.Given as goal

abbrev pub decreases-add_table : goal.decreases-add_table
decreases-add_table l = length l.level.now

abbrev pub invariant-loop-row : goal.invariant-loop-row
invariant-loop-row l = Gains l.level l.prefixes l.fn.entries.items l.entries.items (in_turn (boxes l.store (rows_at l.plans.lists.items) (next l.level)) (rows_of (take l.row-index l.row-items)))

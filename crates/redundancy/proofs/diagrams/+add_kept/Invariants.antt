use Rattle.std.proofs.Common.{length, take}
use Rattle.node_store.specs.Levels.{next}
use Rattle.table_compose.specs.Rows.{rows_of, rows_at}
use Rattle.table_compose.specs.Composed.{boxes, in_turn}
use Rattle.redundancy.proofs.Flagged.{AreFlagged}
use Rattle.redundancy.proofs.diagrams.+add_kept.Given as goal

abbrev pub decreases-add_kept : goal.decreases-add_kept
decreases-add_kept l = length l.level.now

abbrev pub invariant-loop-row : goal.invariant-loop-row
invariant-loop-row l =
    AreFlagged l.level l.prefixes l.fn.entries.items l.entries.items (in_turn (boxes l.store (rows_at l.plans.lists.items) (next l.level)) (rows_of (take l.row-index l.rows))) l.flags l.rest

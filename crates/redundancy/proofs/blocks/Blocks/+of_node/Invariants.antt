use Rattle.std.proofs.Common.{◌+◌, ◌*◌, length, take}
use Rattle.node_store.specs.Levels.{next}
use Rattle.table_compose.specs.Rows.{rows_at, rows_of}
use Rattle.redundancy_laws.specs.Built.{field_of}
use Rattle.redundancy.specs.NodeBlocks.{in_turn, node_rows}
use Rattle.redundancy.proofs.NodeBlocks.{AreTurned}
use Rattle.redundancy.proofs.blocks.Blocks.+of_node.Given as goal

abbrev pub decreases-of_node : goal.decreases-of_node
decreases-of_node l = 3 * length l.level.now + 2

abbrev pub decreases-made : goal.decreases-made
decreases-made l = 3 * length l.level.now + 1

abbrev pub decreases-of_rows : goal.decreases-of_rows
decreases-of_rows l = 3 * length l.level.now

abbrev pub invariant-of_rows-loop-row : goal.invariant-of_rows-loop-row
invariant-of_rows-loop-row l =
    AreTurned l.store l.plans l.initial.sets l.sets l.initial.self l.self l.known l.level l.row-index
    (in_turn (field_of l.level) (node_rows l.store (rows_at l.plans.lists.items) (next l.level)) (rows_of (take l.row-index l.rows))) l.runs.items

use Rattle.std.proofs.Common.{◌≡◌, map, take}
use Rattle.table_compose.specs.Rows.{rows_of, led}
use Rattle.table_compose.proofs.node_plan.leading.Given as goal

abbrev pub invariant-loop-row : goal.invariant-loop-row
invariant-loop-row l = rows_of l.leading.items ≡ map (led l.children) (take l.row-index l.rows)

use Rattle.std.proofs.Common.{◌≡◌, length, take, ◌≤◌}
use Rattle.table_compose.specs.Labels.{children_of, ArePieces}
use Rattle.field_order.proofs.labels.Labels.of.Given as goal

abbrev pub invariant-loop-edge : goal.invariant-loop-edge
invariant-loop-edge l = record {
  children : l.children.keys ≡ children_of (take l.edge-index l.edges);
  pieces : ArePieces (children_of (take l.edge-index l.edges)) (take l.edge-index l.edges) l.pieces.items;
  few : length (children_of (take l.edge-index l.edges)) ≤ l.edge-index;
}

use Rattle.std.proofs.Common.{◌≡◌, length, take, ◌≤◌}
use Rattle.table_compose.specs.Labels.{children_of, ArePieces, ArePlaced}
use Rattle.table_compose.proofs.labels.Labelling.label.Given as goal

abbrev pub invariant-loop-edge : goal.invariant-loop-edge
invariant-loop-edge l = record {
  children : l.self.children.nodes.items ≡ children_of (take l.edge-index l.edges);
  pieces : ArePieces (children_of (take l.edge-index l.edges)) (take l.edge-index l.edges) l.self.pieces.items;
  few : length (children_of (take l.edge-index l.edges)) ≤ l.edge-index;
  placed : ArePlaced l.self.children.places.items l.self.children.nodes.items;
  room : length l.self.children.places.items ≡ length l.fn.self.children.places.items;
}

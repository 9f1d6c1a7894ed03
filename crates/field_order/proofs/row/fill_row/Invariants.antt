use Rattle.std.proofs.Common.{◌≤◌, take}
use Rattle.std.specs.List.{AllZip}
use Rattle.field_boxes.specs.Fields.{greatest_of}
use Rattle.field_order.specs.Fronts.{ArePlaces, IsCell}
use Rattle.field_order.proofs.row.fill_row.Given as goal

abbrev pub invariant-loop-index : goal.invariant-loop-index
invariant-loop-index l = record {
  low : l.lo ≤ l.hi;
  high : l.hi ≤ greatest_of l.field;
  cells : AllZip (IsCell l.store l.lo l.hi) (take l.index l.edges) l.cells.items;
  places : ArePlaces l.store l.edges l.places l.lo;
}

use Rattle.std.proofs.Common.{◌≤◌, suc, ◌-◌, length}
use Rattle.std.specs.List.{All}
use Rattle.field_boxes.specs.Fields.{greatest_of}
use Rattle.node_store.specs.Store.{Grows}
use Rattle.field_order.specs.Fronts.{ArePlaces, IsSample}
use Rattle.field_order.proofs.turning.samples.Given as goal

abbrev pub invariant-loop-value : goal.invariant-loop-value
invariant-loop-value l = record {
  grows : Grows l.fn.store l.store;
  samples : All (IsSample l.fn.store l.store l.level l.field l.edges) l.samples.items;
  few : length l.samples.items ≤ l.value;
  room : length l.samples.items ≤ suc (greatest_of l.field);
  places : ArePlaces l.store l.edges l.places.items l.value;
}

abbrev pub decreases-loop-value : goal.decreases-loop-value
decreases-loop-value l = suc (greatest_of l.field) - l.value

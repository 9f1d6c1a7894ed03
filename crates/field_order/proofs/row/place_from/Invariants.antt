use Rattle.std.proofs.Common.{◌-◌, length}
use Rattle.field_order.specs.Fronts.{ArePassed}
use Rattle.field_order.proofs.row.place_from.Given as goal

abbrev pub invariant-loop-place : goal.invariant-loop-place
invariant-loop-place l = record {
  passed : ArePassed l.edges l.place l.value;
}

abbrev pub decreases-loop-place : goal.decreases-loop-place
decreases-loop-place l = length l.edges - l.place

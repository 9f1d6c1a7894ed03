use Rattle.std.proofs.Common.{◌+◌, ◌-◌, ◌*◌, ◌≤◌, length, take}
use Rattle.std.specs.Prelude.{sum}
use Rattle.std.specs.List.{AllZip}
use Rattle.node_store.specs.Store.{Grows}
use Rattle.field_order.specs.Fronts.{AreFronts}
use Rattle.field_order.specs.Worth.{AreWorths, IsExact, digits}
use Rattle.field_order.proofs.search.+costing.Given as goal

abbrev pub decreases-worth : goal.decreases-worth
decreases-worth l = 8 * (1 + length l.level.now) + 4

abbrev pub decreases-worked_out : goal.decreases-worked_out
decreases-worked_out l = 8 * (1 + length l.level.now) + 1

abbrev pub decreases-weights : goal.decreases-weights
decreases-weights l = 8 * (1 + length l.level.now) + 5

abbrev pub decreases-tried : goal.decreases-tried
decreases-tried l = 8 * (1 + length l.level.now) + 3

abbrev pub decreases-is_above : goal.decreases-is_above
decreases-is_above l = 8 * (1 + length l.level.now) + 2

abbrev pub decreases-child_above : goal.decreases-child_above
decreases-child_above l = 8 * (1 + length l.level.now) + 1

abbrev pub decreases-several_above : goal.decreases-several_above
decreases-several_above l = 8 * (1 + length l.level.now) + 1

abbrev pub decreases-one_above : goal.decreases-one_above
decreases-one_above l = 8 * (1 + length l.level.now) + 5

abbrev pub decreases-sampled : goal.decreases-sampled
decreases-sampled l = 8 * (1 + length l.level.now) + 6

abbrev pub decreases-parts_above : goal.decreases-parts_above
decreases-parts_above l = 8 * (1 + length l.level.now) + 7

abbrev pub invariant-one_above-loop-edge : goal.invariant-one_above-loop-edge
invariant-one_above-loop-edge l = record {
  grows : Grows l.fn.store l.store;
  fronts : AreFronts l.store l.fronts;
  worths : AreWorths l.store l.worths;
}

abbrev pub invariant-weights-loop-node : goal.invariant-weights-loop-node
invariant-weights-loop-node l = record {
  grows : Grows l.fn.store l.store;
  fronts : AreFronts l.store l.fronts;
  worths : AreWorths l.store l.worths;
  weights : AllZip (λ c n. IsExact l.store (digits (length l.level) l.order) c.0 n) (take l.node-index l.nodes) l.weights.items;
  others : l.others ≤ sum l.weights.items + (length l.nodes - l.node-index) - 1;
}

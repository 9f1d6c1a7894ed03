use Rattle.std.proofs.Common.{take}
use Rattle.std.specs.Prelude.{All}
use Rattle.table_compose.specs.Plans.{IsMarked, LearnsBelow}
use Rattle.table_compose.proofs.diagram_plans.Plans.+learn_node.Given as goal

abbrev pub decreases-learn_node : goal.decreases-learn_node
decreases-learn_node l = l.id.0

abbrev pub invariant-loop-edge : goal.invariant-loop-edge
invariant-loop-edge l = record {
  learns : LearnsBelow l.store l.fn.self l.self l.id.0;
  known : All (λ e. IsMarked l.self.known.items e.to.0) (take l.edge-index l.edges);
}

use Rattle.std.proofs.Common.{take}
use Rattle.std.specs.Prelude.{All}
use Rattle.table_compose.specs.Plans.{IsMarked}
use Rattle.table_compose.specs.Costs.{LearnsCosts}
use Rattle.table_compose.proofs.costs.Costs.+learn.Given as goal

abbrev pub decreases-learn : goal.decreases-learn
decreases-learn l = l.id.0

abbrev pub invariant-loop-edge : goal.invariant-loop-edge
invariant-loop-edge l = record {
  learns : LearnsCosts l.store l.fn.self l.self;
  known : All (λ e. IsMarked l.self.known.items e.to.0) (take l.edge-index l.edges);
}

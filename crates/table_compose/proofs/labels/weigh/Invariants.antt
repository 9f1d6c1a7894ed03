use Rattle.std.proofs.Common.{◌≡◌, map, take}
use Rattle.std.specs.Prelude.{slice_index}
use Rattle.table_compose.proofs.labels.weigh.Given as goal

abbrev pub invariant-loop-child : goal.invariant-loop-child
invariant-loop-child l = l.weights.items ≡ map (λ c. slice_index l.costs c.0) (take l.child-index l.children)

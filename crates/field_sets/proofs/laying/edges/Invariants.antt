use Rattle.std.proofs.Common.{List, ◌++◌}
use Rattle.node_store.specs.declared.edge.Edge.{Edge}
use Rattle.field_sets.proofs.Covering.{Follows, left_over}
use Rattle.field_sets.proofs.laying.edges.Given as goal

abbrev pub invariant-loop-edge : goal.invariant-loop-edge
invariant-loop-edge l = (rest : List Edge) → Follows l.filled l.own l.placed rest → Follows 0 l.fn.own l.fn.placed (l.edges.items ++ rest)

abbrev pub decreases-loop-edge : goal.decreases-loop-edge
decreases-loop-edge l = left_over l.filled l.own l.placed

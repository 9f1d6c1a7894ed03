use Rattle.std.proofs.Common.{List, ◌+◌, ◌++◌, length}
use Rattle.node_store.specs.declared.split.Part.{Part}
use Rattle.node_store.proofs.Splitting.{Follows}
use Rattle.node_store.proofs.split.parts_of.Given as goal

abbrev pub invariant-loop-part : goal.invariant-loop-part
invariant-loop-part l = (rest : List Part) → Follows l.left l.right rest → Follows l.fn.left l.fn.right (l.parts.items ++ rest)

abbrev pub decreases-loop-part : goal.decreases-loop-part
decreases-loop-part l = length l.left + length l.right

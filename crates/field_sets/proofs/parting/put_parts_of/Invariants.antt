use Rattle.std.proofs.Common.{List, ◌+◌, ◌++◌, length}
use Rattle.node_store.specs.declared.split.Part.{Part}
use Rattle.field_sets.proofs.Together.{Follows}
use Rattle.field_sets.proofs.parting.put_parts_of.Given as goal

abbrev pub invariant-loop-part : goal.invariant-loop-part
invariant-loop-part l = (rest : List Part) → Follows l.hi l.left l.right rest → Follows l.hi l.fn.left l.fn.right (l.parts.items ++ rest)

abbrev pub decreases-loop-part : goal.decreases-loop-part
decreases-loop-part l = length l.left + length l.right

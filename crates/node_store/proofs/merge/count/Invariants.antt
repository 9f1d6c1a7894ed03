use Rattle.std.proofs.Common.{◌≡◌, ◌≤◌, ◌+◌, drop, length}
use Rattle.node_store.specs.Edges.{merged}
use Rattle.node_store.proofs.merge.count.Given as goal

abbrev pub invariant-loop-place : goal.invariant-loop-place
invariant-loop-place l = (l.count + length (merged (drop l.place l.edges)) ≡ length (merged l.edges)) × (l.count ≤ l.place)

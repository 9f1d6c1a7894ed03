use Rattle.std.proofs.Common.{◌≡◌, ◌++◌, drop}
use Rattle.node_store.specs.Edges.{merged}
use Rattle.node_store.proofs.merge.merge.Given as goal

abbrev pub invariant-loop-place : goal.invariant-loop-place
invariant-loop-place l = l.kept.items ++ merged (drop l.place l.edges) ≡ merged l.edges

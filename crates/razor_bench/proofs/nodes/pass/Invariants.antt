use Rattle.std.proofs.Common.{◌≤◌, length}
use Rattle.razor_bench.proofs.nodes.pass.Given as goal

abbrev pub invariant-loop-place : goal.invariant-loop-place
invariant-loop-place l = l.place-counter ≤ length l.store

use Rattle.std.proofs.Common.{◌≡◌, length}
use Rattle.razor_bench.proofs.pieces.weights.Given as goal

abbrev pub invariant-loop-label : goal.invariant-loop-label
invariant-loop-label l = length l.weights.items ≡ l.label

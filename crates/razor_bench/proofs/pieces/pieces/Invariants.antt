use Rattle.razor_bench.specs.Cut.{IsCut}
use Rattle.razor_bench.proofs.pieces.pieces.Given as goal

abbrev pub invariant-loop-label : goal.invariant-loop-label
invariant-loop-label l = IsCut l.weights l.start l.pieces.items

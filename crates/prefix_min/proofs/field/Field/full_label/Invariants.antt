use Rattle.prefix_min.specs.Field.{IsLeastSoFar}
use Rattle.prefix_min.proofs.field.Field.full_label.Given as goal

abbrev pub invariant-loop-piece : goal.invariant-loop-piece
invariant-loop-piece l = IsLeastSoFar l.self.weights.now l.savings l.self.pieces.now l.piece-index l.best

use Rattle.std.proofs.Common.{length}
use Rattle.field_sets.specs.Constant.{AnswersAlways}
use Rattle.redundancy.proofs.BlockRows.{AreLaid}
use Rattle.redundancy.proofs.blocks.Blocks.layers.Given as goal

abbrev pub invariant-loop-rest : goal.invariant-loop-rest
invariant-loop-rest l = record {
  laid : AreLaid l.fn.sets l.sets l.fn.self l.self l.level l.runs l.rest l.numbers.items;
  none : AnswersAlways l.sets l.level 0 l.none.0;
}

abbrev pub decreases-loop-rest : goal.decreases-loop-rest
decreases-loop-rest l = length l.rest

use Rattle.std.proofs.Common.{length}
use Rattle.redundancy.proofs.blocks.Blocks.+sequence.Given as goal

abbrev pub decreases-sequence : goal.decreases-sequence
decreases-sequence l = length l.numbers.now

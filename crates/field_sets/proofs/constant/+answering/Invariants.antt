use Rattle.std.proofs.Common.{length}
use Rattle.field_sets.proofs.constant.+answering.Given as goal

abbrev pub decreases-answering : goal.decreases-answering
decreases-answering l = length l.level.now

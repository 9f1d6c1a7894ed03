use Rattle.std.proofs.Common.{length}
use Rattle.fdd_build.proofs.boxes.+boxed.Given as goal

abbrev pub decreases-boxed : goal.decreases-boxed
decreases-boxed l = length l.level.now

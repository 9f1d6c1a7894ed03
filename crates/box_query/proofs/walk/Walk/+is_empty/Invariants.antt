use Rattle.std.proofs.Common.{length}
use Rattle.box_query.proofs.walk.Walk.+is_empty.Given as goal

abbrev pub decreases-is_empty : goal.decreases-is_empty
decreases-is_empty l = length l.level.now

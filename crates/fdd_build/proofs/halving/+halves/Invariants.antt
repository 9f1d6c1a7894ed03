use Rattle.std.proofs.Common.{◌+◌, ◌*◌, length}
use Rattle.fdd_build.proofs.halving.+halves.Given as goal

abbrev pub decreases-halved : goal.decreases-halved
decreases-halved l = 3 * length l.rules.now

abbrev pub decreases-build : goal.decreases-build
decreases-build l = 3 * length l.rules.now + 1

abbrev pub decreases-half : goal.decreases-half
decreases-half l = 3 * length l.rules.now + 2

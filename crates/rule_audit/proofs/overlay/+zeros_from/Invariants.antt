use Rattle.std.proofs.Common.{length}
use Rattle.rule_audit.proofs.overlay.+zeros_from.Given as goal

abbrev pub decreases-zeros_from : goal.decreases-zeros_from
decreases-zeros_from l = length l.level.now

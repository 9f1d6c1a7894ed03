use Rattle.std.proofs.Common.{length}
use Rattle.rule_audit.proofs.list_parts.+parted.Given as goal

abbrev pub decreases-parted : goal.decreases-parted
decreases-parted l = length l.rules.now

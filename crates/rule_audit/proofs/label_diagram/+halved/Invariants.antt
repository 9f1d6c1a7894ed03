use Rattle.rule_audit.proofs.PartsShown.{part_size}
use Rattle.rule_audit.proofs.label_diagram.+halved.Given as goal

abbrev pub decreases-halved : goal.decreases-halved
decreases-halved l = part_size l.part.now

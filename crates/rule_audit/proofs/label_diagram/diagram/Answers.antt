use Rattle.rule_audit.proofs.Joining.{stand_itself}
use Rattle.rule_audit.proofs.label_diagram.diagram.Goals as goal

pub halved-requires-clause-stand : goal.halved-requires-clause-stand
halved-requires-clause-stand c = stand_itself c.args.labels.now.rules.now

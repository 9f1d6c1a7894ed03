use Rattle.field_boxes.proofs.Open.{open-matches}
use Rattle.field_boxes.proofs.rule.Rule.open.Goals as goal

pub returns-clause-matched : goal.returns-clause-matched
returns-clause-matched c = open-matches c.all_ports-ports.result c.args.decision c.all_ports-ports.ensures

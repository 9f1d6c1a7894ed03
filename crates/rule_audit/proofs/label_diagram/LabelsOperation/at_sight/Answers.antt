use Rattle.rule_audit.specs.Labels.{joined}
use Rattle.rule_audit.proofs.Joining.{none_above, none_below}
use Rattle.rule_audit.proofs.label_diagram.LabelsOperation.at_sight.Goals as goal

pub returns : goal.returns
returns c =
    let first = c.args.self.now.first in
    let rules = c.args.self.now.rules.now in
    c.beside.ensures (joined first rules) (none_above first rules) (none_below first rules)

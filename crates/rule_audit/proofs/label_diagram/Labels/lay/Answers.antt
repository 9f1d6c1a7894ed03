use Rattle.rule_audit.specs.Labels.{joined}
use Rattle.rule_audit.proofs.label_diagram.Labels.lay.Goals as goal

pub apply-requires-clause-results : goal.apply-requires-clause-results
apply-requires-clause-results c = c.new-results.ensures (joined c.args.self.now.first c.args.self.now.rules.now) c.args.store.now

use Rattle.rule_audit.specs.Parts.{over}
use Rattle.rule_audit.proofs.overlay.Overlay.lay.Goals as goal

pub apply-requires-clause-results : goal.apply-requires-clause-results
apply-requires-clause-results c = c.new-results.ensures over c.args.store.now

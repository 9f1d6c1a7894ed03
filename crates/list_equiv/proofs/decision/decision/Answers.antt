use Rattle.std.proofs.Common.{ap, ◌∙◌}
use Rattle.list_equiv.proofs.Decided.{found, found_decision}
use Rattle.list_equiv.proofs.decision.decision.Goals as goal

pub returns-in-Some : goal.returns-in-Some
returns-in-Some c = ap found_decision c.in-Some.ensures ∙ found c.args.header.now.values c.args.rules.now

pub returns-in-None : goal.returns-in-None
returns-in-None c = ap found_decision c.in-None.ensures ∙ found c.args.header.now.values c.args.rules.now

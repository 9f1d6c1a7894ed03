use Rattle.std.proofs.Common.{◌∙◌, ap, sym}
use Rattle.field_boxes.specs.Rules.{first_match}
use Rattle.partition_check.specs.Claims.{rule_matches}
use Rattle.agreement_check.proofs.First.{place-none}
use Rattle.agreement_check.proofs.sides.Sides.first_rule.Goals as goal

pub returns-in-None : goal.returns-in-None
returns-in-None c = c.rule_count.ensures ∙ place-none (rule_matches c.args.header.now.values) c.args.self.now.list.now.rules.items (ap (first_match c.args.header.now.values) (sym c.deref.ensures.value) ∙ sym c.first.ensures ∙ c.in-None.is)

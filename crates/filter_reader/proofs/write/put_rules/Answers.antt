use Rattle.std.proofs.Common.{arith}
use Rattle.field_boxes.specs.NamedRules.{named_rule}
use Rattle.razor_base.proofs.Writing.{puts-is, puts-next, puts-next_cut, puts-each, texts_map}
use Rattle.filter_reader.specs.ListText.{rule_text}
use Rattle.filter_reader.proofs.write.put_rules.Goals as goal

pub returns-in_err-put_rule : goal.returns-in_err-put_rule
returns-in_err-put_rule g c =
    puts-is (puts-next_cut (λ r. rule_text (named_rule c.args.names.now r)) _ c.loop-rule.rule-index _ _ (omega arith) c.rule-item.is c.from_residual.ensures.0 c.loop-rule.invariant c.in_err-put_rule.ensures)
    (texts_map rule_text (named_rule c.args.names.now) c.args.rules.now)

pub loop-rule-preserved : goal.loop-rule-preserved
loop-rule-preserved g c =
    puts-next (λ r. rule_text (named_rule c.args.names.now r)) _ c.loop-rule.rule-index _ _ (omega arith) c.rule-item.is c.loop-rule.invariant c.in_ok-put_rule.ensures

pub returns : goal.returns
returns g c =
    puts-is (puts-each (λ r. rule_text (named_rule c.args.names.now r)) _ c.loop-rule.rule-index (omega arith) c.loop-rule.invariant)
    (texts_map rule_text (named_rule c.args.names.now) c.args.rules.now)

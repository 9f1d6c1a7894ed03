use Rattle.std.proofs.Common.{ap, ℕ}
use Rattle.field_boxes.specs.Headline.Classifier.{Rule}
use Rattle.field_boxes.specs.Rules.{sets_of}
use Rattle.list_equiv.proofs.Renumbered.{pushed}
use Rattle.list_equiv.proofs.renumbering.renumbered.Goals as goal

pub loop-rule-preserved : goal.loop-rule-preserved
loop-rule-preserved c =
    pushed _ c.args.names.now c.args.others.now c.loop-rule.made.items c.args.rules.now c.rule-item.result c.loop-rule.rule-index c.in_ok-push.ensures.items c.loop-rule-test.true c.rule-item.is
    (ap (λ (n : ℕ). let r : Rule ℕ = record { sets = sets_of c.rule-item.result; decision = n } in r) c.common_number-decision.ensures)
    c.loop-rule.invariant

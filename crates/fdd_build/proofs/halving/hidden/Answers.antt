use Rattle.std.proofs.Common.{◌∙◌, ap, sym, take}
use Rattle.std.specs.Prelude.{cond, ◌||◌}
use Rattle.std.specs.List.{list_any}
use Rattle.std.proofs.lemmas.List.Folds.{list_any_more}
use Rattle.field_boxes.specs.declared.rule.Rule as code
use Rattle.node_store.specs.Diagram.{answer}
use Rattle.node_store.proofs.Growth as growth
use Rattle.fdd_build.specs.Rules.{hides}
use Rattle.fdd_build.proofs.Joined.{hidden_too}
use Rattle.fdd_build.proofs.halving.hidden.Goals as goal

pub loop-rule-preserved : goal.loop-rule-preserved
loop-rule-preserved c =
    let l = c.loop-rule in
    let rule = c.rule-item.result in
    let rules = c.args.rules.now in
    let made = c.in_ok-shown.ensures in record {
      level = made.level;
      answers = λ header h.
          let below = answer c.args.store.now c.args.below.0 header in
          made.answers header h
          ∙ ap (λ n. cond (hides c.args.order.now rule header) 0 n) (l.invariant.answers header h)
          ∙ hidden_too (list_any (λ r. hides c.args.order.now r header) (take l.rule-index rules)) (hides c.args.order.now rule header) below
          ∙ sym (ap (λ b. cond b 0 below) (list_any_more (λ r. hides c.args.order.now r header) rules l.rule-index rule c.loop-rule-test.true
          ∙ ap (λ (r : code.Rule). list_any (λ x. hides c.args.order.now x header) (take l.rule-index rules) || hides c.args.order.now r header) (sym c.rule-item.is)));
      grows = growth.twice c.args.store.now l.store c.hidden_by.new.store l.invariant.grows made.grows;
    }

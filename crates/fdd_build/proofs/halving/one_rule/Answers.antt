use Rattle.std.proofs.Common.{◌∙◌, ap, sym}
use Rattle.std.specs.Prelude.{cond}
use Rattle.field_boxes.specs.Headline.Classifier.{matches}
use Rattle.fdd_build.specs.Sets.{box_rule}
use Rattle.fdd_build.proofs.Boxed.{box_matches}
use Rattle.fdd_build.proofs.Joined.{decides_one}
use Rattle.fdd_build.proofs.halving.one_rule.Goals as goal

pub returns-clause-answers : goal.returns-clause-answers
returns-clause-answers c = λ values h.
    c.in_ok-id.ensures.answers values h
    ∙ ap (λ sets. cond (matches c.args.order.now values (box_rule sets)) c.args.rule.now.decision 0) c.sets.ensures.sets
    ∙ ap (λ b. cond b c.args.rule.now.decision 0) (box_matches c.args.order.now values c.args.rule.now)
    ∙ sym (decides_one c.args.order.now values c.args.rule.now)

use Rattle.std.proofs.Common.{◌∙◌, List, ap, sym, subst}
use Rattle.field_boxes.specs.declared.rule.Rule.{Rule}
use Rattle.field_boxes.specs.Headline.Fields.{stated, AreValues}
use Rattle.fdd_build.specs.Rules.{decided}
use Rattle.box_query.proofs.diagram.wanted.Goals as goal

pub returns-clause-level : goal.returns-clause-level
returns-clause-level c = c.in_ok-id.ensures.level ∙ c.stated_order.ensures.stated

pub returns-clause-answers : goal.returns-clause-answers
returns-clause-answers c = λ header is.
    c.in_ok-id.ensures.answers header (subst (λ o. AreValues o header) (sym c.stated_order.ensures.stated) is)
    ∙ ap (λ o. decided o c.deref.result.now header) c.stated_order.ensures.stated
    ∙ ap (λ (rs : List Rule). decided stated rs header) c.deref.ensures.value
    ∙ c.in_ok-rules.ensures header is

use Rattle.std.proofs.Common.{◌∙◌, List, ap, sym}
use Rattle.std.specs.List.{remove}
use Rattle.field_boxes.specs.declared.rule.Rule.{Rule}
use Rattle.edit_session.specs.Ordered.{gathered, in_order}
use Rattle.edit_session.proofs.Ordering.{number-removed}
use Rattle.edit_session.proofs.ordered.Ordered.remove.Goals as goal

pub returns-in-Some : goal.returns-in-Some
returns-in-Some c =
    let kept = c.self.inside.kept.items in
    ap (gathered kept) c.remove-number.ensures.items ∙ number-removed kept c.in-Some.places.items c.args.index
    ∙ ap (λ (rs : List Rule). remove rs c.args.index) (sym (ap (in_order kept) c.in-Some.is) ∙ c.self.view_is ∙ c.number.ensures)

use Rattle.std.proofs.Common.{List, [], append-nil, length, subst}
use Rattle.field_boxes.specs.declared.rule.Rule as code
use Rattle.rule_shortening.specs.Drafts.{AreFor}
use Rattle.rule_shortening.proofs.Fronts.{none_for}
use Rattle.rule_shortening.proofs.draft.in_full.Goals as goal

pub returns : goal.returns
returns c =
    let count = length c.args.names.now in
    subst (λ (rules : List code.Rule). AreFor count rules c.in_ok-in_front.field-0.items) (append-nil c.args.rules.now) (c.in_ok-in_front.ensures [] (none_for count))

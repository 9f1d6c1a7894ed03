use Rattle.std.proofs.Common.{ap, ◌∙◌, get_or}
use Rattle.field_boxes.specs.Headline.Fields.{IsHeader}
use Rattle.rule_audit.specs.Labels.{label_at}
use Rattle.rule_audit.specs.Meeting.{next_behind, next_shown, shown_by}
use Rattle.rule_audit.proofs.Behind.{shows_behind}
use Rattle.rule_audit.proofs.PartsShown.{part_stays}
use Rattle.rule_audit.proofs.SoFar.{shown_alike}
use Rattle.rule_audit.proofs.auditing.by_labels.Goals as goal

pub returns-clause-each : goal.returns-clause-each
returns-clause-each c = λ k d less opens.
    let first = c.args.first in
    let rules = c.args.rules.now in
    shown_alike IsHeader (shown_by first c.diagram.new.store c.in_ok-root.root.0 k) (next_behind rules k)
    (λ h ok. ap (λ n. next_shown k (label_at first n)) (c.in_ok-root.ensures.answers h ok) ∙ shows_behind first c.requires.some c.args.left_open.now h k rules c.requires.below opens)
    (get_or c.in_ok-states-2.states.items k d) (c.in_ok-states-2.ensures.each k d less)

pub diagram-requires-clause-part : goal.diagram-requires-clause-part
diagram-requires-clause-part c = part_stays c.args.store.now c.of.new.store c.args.rules.now c.args.part.now c.in_ok-overlay.ensures.grows c.requires.part

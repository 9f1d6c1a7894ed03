use Rattle.std.proofs.Common.{◌≡◌, ◌∙◌, ◌+◌, List, ap, sym, subst, length, get_or, arith}
use Rattle.std.proofs.lemmas.List.Elements.{recursion_from_All}
use Rattle.field_boxes.specs.declared.rule.Rule.{Rule}
use Rattle.field_boxes.specs.Headline.Fields.{IsHeader}
use Rattle.field_boxes.specs.NamedRules.{IsNumberedBy}
use Rattle.rule_audit.specs.Labels.{AllBelow, AllDecide}
use Rattle.rule_audit.specs.Meeting.{IsStateSoFar, next_behind}
use Rattle.rule_audit.proofs.Named.{all_below, all_decide, are_states}
use Rattle.rule_audit.proofs.auditing.audit.Goals as goal

pub told-requires-clause-decide : goal.told-requires-clause-decide
told-requires-clause-decide c =
    let list = c.args.list.now in
    subst AllDecide (sym c.deref.ensures.value) (all_decide list.names list.rules.items (recursion_from_All (IsNumberedBy list.names) list.rules.items list.numbered))

pub told-requires-clause-below : goal.told-requires-clause-below
told-requires-clause-below c =
    let list = c.args.list.now in
    let first = c.count-first.result + 1 in
    subst (AllBelow first) (sym c.deref.ensures.value)
    (all_below list.names first list.rules.items (omega (arith, c.count-first.ensures)) (recursion_from_All (IsNumberedBy list.names) list.rules.items list.numbered))

pub returns : goal.returns
returns c =
    let list = c.args.list.now in
    let states = c.in_ok-states.states.items in
    let long : length c.deref.result.now ≡ length list.rules.items = ap (λ (rs : List Rule). length rs) c.deref.ensures.value in
    let count : length states ≡ length c.deref.result.now = omega (arith, c.in_ok-states.ensures.count) in
    are_states list.names list.rules.items states list.numbered c.are_names.ensures.distinct (count ∙ long)
    (λ k d less. subst (λ (rs : List Rule). IsStateSoFar IsHeader (next_behind rs k) (get_or states k d)) c.deref.ensures.value
    (c.in_ok-states.ensures.each k d (omega (arith, long, less))))

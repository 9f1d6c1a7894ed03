use Rattle.std.proofs.Common.{◌≡◌, ◌<◌, ◌∙◌, List, Bool, true, ap, sym, subst, length, get_or, arith, Option, None, is_none, map, unwrap_or}
use Rattle.field_boxes.specs.Headline.Fields.{IsHeader}
use Rattle.rule_audit.specs.declared.state.RuleState.{RuleState}
use Rattle.rule_audit.specs.declared.state.RuleState.TheVariants.{Never}
use Rattle.rule_audit.specs.Labels.{is_open}
use Rattle.rule_audit.specs.Meeting.{IsStateSoFar, next_behind}
use Rattle.rule_audit.proofs.Chosen.{chosen_at}
use Rattle.rule_audit.proofs.auditing.told.Goals as goal

pub returns-clause-each : goal.returns-clause-each
returns-clause-each c = λ k d less.
    let known = c.in_ok-known.known.items in
    let states = c.in_ok-states.states.items in
    let rules = c.args.rules.now in
    let long : length known ≡ length rules = omega (arith, c.in_ok-known.ensures.count) in
    let inside : k < length known = omega (arith, less, long) in
    let same : length c.deref-3.result.now ≡ length known = ap (λ (xs : List (Option RuleState)). length xs) c.deref-3.ensures.value in
    let count : length states ≡ length known = omega (arith, c.in_ok-states.ensures.count, same) in
    chosen_at (IsStateSoFar IsHeader (next_behind rules k)) known c.in_ok-found.found.items states c.in_ok-left_open.left_open.items k d Never inside count
    (c.in_ok-left_open.ensures ∙ ap (λ (xs : List (Option RuleState)). map is_none xs) c.deref.ensures.value)
    (c.in_ok-states.ensures.each k (omega (arith, inside, same))
    ∙ ap (λ (xs : List (Option RuleState)). unwrap_or (get_or xs k None) (get_or c.deref-4.result.now k Never)) c.deref-3.ensures.value
    ∙ ap (λ (ys : List RuleState). unwrap_or (get_or known k None) (get_or ys k Never)) c.deref-4.ensures.value)
    (c.in_ok-known.ensures.each k None less)
    (λ opens. c.in_ok-found.ensures.each k Never less (subst (λ (bs : List Bool). is_open bs k ≡ true) (sym c.deref-2.ensures.value) opens))

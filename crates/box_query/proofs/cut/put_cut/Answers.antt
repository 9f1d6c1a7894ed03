use Rattle.std.proofs.Common.{◌≡◌, ◌<◌, ◌∙◌, ◌∷◌, [], Result, Ok, Err, arith, ap, get_or, length, rules, IfOk}
use Rattle.field_boxes.specs.Spans.{interval_of}
use Rattle.box_query.specs.Asked.{number_decided, then_decided}
use Rattle.box_query.specs.Cut.{port_set, span_set}
use Rattle.box_query.proofs.Asking.{put-kept}
use Rattle.box_query.proofs.Cutting.{cut-match, ports-there}
use Rattle.field_boxes.proofs.FieldByField.{five_items}
use Rattle.box_query.proofs.cut.put_cut.Goals as goal

if-ok : {T E : Type 0} {P Q : T → Type 0} (r : Result T E) → ((x : T) → P x → Q x) → IfOk r P → IfOk r Q
if-ok (Ok x) f h = f x h
if-ok (Err e) f h = tt

pub returns : goal.returns
returns c =
    if-ok c.put_kept.result (λ x to header is.
    let rule = c.args.rule.now in
    let spans = c.args.spans.now in
    let five : length spans ≡ 5 = search rules in
    let first : 0 < length rule.ports = omega arith in
    let second : 1 < length rule.ports = omega arith in
    put-kept header c.args.rules.now.items c.put_kept.new.rules.items c.joined-kept.result c.args.decision c.joined-kept.ensures.decision to
    ∙ ap (λ b. then_decided (number_decided c.args.rules.now.items header) b c.args.decision) (c.joined-kept.ensures.matched header is
    ∙ cut-match (span_set c.common.result) (span_set c.common-2.result) (port_set c.in_ok-source_ports.source_ports) (port_set c.in_ok-destination_ports.destination_ports) (span_set c.common-3.result)
    rule spans (get_or spans 0 c.index-spans-0.result) (get_or spans 1 c.index-spans-1.result) (get_or spans 2 c.index-spans-2.result) (get_or spans 3 c.index-spans-3.result)
    (get_or spans 4 c.index-spans-4.result) header
    (five_items spans c.index-spans-0.result c.index-spans-1.result c.index-spans-2.result c.index-spans-3.result c.index-spans-4.result five)
    c.common.ensures.values c.common-2.ensures.values
    (ports-there rule 0 c.index-rule-0.result (port_set c.in_ok-source_ports.source_ports) (interval_of (get_or spans 2 c.index-spans-2.result) ∷ []) first c.in_ok-source_ports.ensures)
    (ports-there rule 1 c.index-rule-1.result (port_set c.in_ok-destination_ports.destination_ports) (interval_of (get_or spans 3 c.index-spans-3.result) ∷ []) second c.in_ok-destination_ports.ensures)
    c.common-3.ensures.values)) c.put_kept.ensures

use Rattle.std.proofs.Common.{◌≡◌, ◌∙◌, List, ap, length, rules, cond}
use Rattle.field_boxes.specs.declared.rule.Rule.{Rule}
use Rattle.field_boxes.specs.Boxes.{box_of, box_holds}
use Rattle.field_boxes.specs.Headline.Fields.{stated}
use Rattle.field_boxes.specs.Names.{name_at}
use Rattle.field_boxes.specs.Spans.{intervals_of}
use Rattle.field_boxes.specs.Lists.{filter_list}
use Rattle.fdd_build.specs.Rules.{decided}
use Rattle.box_query.specs.Asked.{label}
use Rattle.box_query.specs.NodeBoxes.{node_boxes}
use Rattle.box_query.proofs.Ended.{all-written, cut-off, last-failed, refused, unwritten}
use Rattle.box_query.proofs.Meant.{boxes-of}
use Rattle.box_query.proofs.boxes.query.Goals as goal

pub returns-in_err-diagram-clause-err : goal.returns-in_err-diagram-clause-err
returns-in_err-diagram-clause-err g c = refused (filter_list c.args.list.now).rules (intervals_of c.args.spans.now) (name_at c.args.list.now.names c.args.decision) _ _ c.from_residual.ensures.1

pub returns-in_err-boxes-clause-err : goal.returns-in_err-boxes-clause-err
returns-in_err-boxes-clause-err g c =
    let nodes = c.wanted.new.store in
    let five : length c.args.spans.now ≡ 5 = search rules in
    cut-off g.K.Sink.written g.K.Sink.faults _ _ _ (filter_list c.args.list.now).rules (intervals_of c.args.spans.now) (name_at c.args.list.now.names c.args.decision)
    (node_boxes nodes stated c.in_ok-diagram.diagram.0) _
    (boxes-of nodes c.in_ok-diagram.diagram.0 c.args.list.now c.args.spans.now c.args.decision c.same_answers.ensures.store c.in_ok-diagram.ensures.level five c.are_names.ensures c.requires.known
    (λ header is. c.in_ok-diagram.ensures.answers header is
    ∙ ap (λ (rs : List Rule). cond (box_holds (box_of c.args.spans.now) header) (label c.args.decision (decided stated rs header)) 2) c.deref.ensures.value))
    c.in_err-boxes.ensures.text c.from_residual-in_err-boxes.ensures.1

pub returns-clause-ok : goal.returns-clause-ok
returns-clause-ok g c =
    let nodes = c.wanted.new.store in
    let five : length c.args.spans.now ≡ 5 = search rules in
    all-written g.K.Sink.written g.K.Sink.faults _ _ _ _ (filter_list c.args.list.now).rules (intervals_of c.args.spans.now) (name_at c.args.list.now.names c.args.decision)
    (node_boxes nodes stated c.in_ok-diagram.diagram.0)
    (boxes-of nodes c.in_ok-diagram.diagram.0 c.args.list.now c.args.spans.now c.args.decision c.same_answers.ensures.store c.in_ok-diagram.ensures.level five c.are_names.ensures c.requires.known
    (λ header is. c.in_ok-diagram.ensures.answers header is
    ∙ ap (λ (rs : List Rule). cond (box_holds (box_of c.args.spans.now) header) (label c.args.decision (decided stated rs header)) 2) c.deref.ensures.value))
    c.in_ok-boxes.ensures.text c.in_ok-boxes.ensures.count

pub returns-in_err-diagram-clause-writes : goal.returns-in_err-diagram-clause-writes
returns-in_err-diagram-clause-writes g c = unwritten (g.K.Sink.written c.args.out.now) c.from_residual.result c.from_residual.ensures.1

pub returns-in_err-boxes-clause-writes : goal.returns-in_err-boxes-clause-writes
returns-in_err-boxes-clause-writes g c =
    last-failed (g.K.Sink.written c.args.out.now) (g.K.Sink.written c.write_boxes.new.out) c.from_residual-in_err-boxes.result c.from_residual-in_err-boxes.ensures.1 c.in_err-boxes.ensures.text.tries

use Rattle.std.proofs.Common.{◌∙◌, ap, arith, subst, sym}
use Rattle.field_boxes.specs.Headline.Fields.{width}
use Rattle.node_store.specs.Levels.{HasField}
use Rattle.node_store.specs.Diagram.{level_of}
use Rattle.table_compose.specs.Plans.{width_of}
use Rattle.table_compose.proofs.Planned.{few_at, width_head}
use Rattle.table_compose.proofs.Inputs.{inputs, known}
use Rattle.table_compose.proofs.labels.Labelling.ask.Goals as goal

pub label-requires-clause-few : goal.label-requires-clause-few
label-requires-clause-few c = few_at (level_of c.args.store.now c.args.id.0) c.edges-edges.result.now c.requires.field (c.edges-edges.ensures.inner c.requires.field).full

pub label-requires-clause-room : goal.label-requires-clause-room
label-requires-clause-room c = λ k d less.
    let low = ((c.edges-edges.ensures.inner c.requires.field).children k d less).0 in
    let room = c.requires.places in
    omega (arith, low, room)

pub weigh-requires : goal.weigh-requires
weigh-requires c =
    known c.args.store.now c.args.id.0 c.args.costs.now c.edges-edges.result.now c.label.new.self.children.nodes.items c.as_slice.result.now c.requires.costs (c.edges-edges.ensures.inner c.requires.field)
    c.in_ok-label.ensures.children c.as_slice.ensures.value

pub returns-clause-inputs : goal.returns-clause-inputs
returns-clause-inputs c =
    inputs c.args.store.now c.args.id.0 c.args.costs.now c.edges-edges.result.now c.label.new.self.children.nodes.items c.as_slice.result.now c.label.new.self.pieces.items c.weigh.new.weights.items
    c.same_answers.ensures.store c.requires.field c.edges-edges.ensures.edges (c.edges-edges.ensures.inner c.requires.field) c.in_ok-label.ensures.children c.in_ok-label.ensures.pieces
    c.as_slice.ensures.value c.in_ok-weigh.ensures

pub returns-clause-bits : goal.returns-clause-bits
returns-clause-bits c = c.width-bits.ensures ∙ ap width c.from.ensures ∙ width_head c.level-level.result.now _ (subst HasField (sym c.level-level.ensures.level) c.requires.field) ∙ ap width_of c.level-level.ensures.level

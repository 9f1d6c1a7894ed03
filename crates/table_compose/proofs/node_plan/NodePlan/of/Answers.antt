use Rattle.std.proofs.Common.{◌^◌, ◌∙◌, ap, sym, subst, length, map}
use Rattle.node_store.specs.Levels.{HasField}
use Rattle.node_store.specs.Diagram.{level_of}
use Rattle.node_store.proofs.Canonical.{not_empty}
use Rattle.table_compose.specs.Plans.{width_of}
use Rattle.table_compose.proofs.Inputs.{sliced, follows, wholes, lights, counts, planned, minimal, within}
use Rattle.table_compose.proofs.Planned.{leaf_planned, no_fields}
use Rattle.table_compose.specs.Rows.{rows_of, led}
use Rattle.table_compose.proofs.node_plan.NodePlan.of.Goals as goal

pub ask-requires-clause-field : goal.ask-requires-clause-field
ask-requires-clause-field c = subst HasField c.level-level.ensures.level (not_empty c.level-level.result.now c.level-level.ensures.within (sym c.if-is_empty.ensures))

pub cheapest-requires : goal.cheapest-requires
cheapest-requires c =
    let nodes = c.args.store.now in
    let id = c.args.id.0 in
    let costs = c.args.costs.now in
    let labels = c.ask.new.self in
    let children = labels.children.nodes.items in
    let pieces = c.as_slice.result.now in
    let weights = c.as_slice-2.result.now in
    let given = sliced nodes id costs children labels.pieces.items pieces labels.weights.items weights c.in_ok-bits.ensures.inputs c.as_slice.ensures.value c.as_slice-2.ensures.value in record {
      wide = c.in_ok-bits.ensures.narrow;
      follow = follows nodes id costs children pieces weights given;
      whole = wholes nodes id costs children pieces weights given ∙ ap (λ w. 2 ^ w) (sym c.in_ok-bits.ensures.bits);
      light = lights nodes id costs children pieces weights given c.requires.children;
    }

pub leading-requires : goal.leading-requires
leading-requires c =
    let nodes = c.args.store.now in
    let id = c.args.id.0 in
    let costs = c.args.costs.now in
    let labels = c.ask.new.self in
    let children = labels.children.nodes.items in
    let pieces = c.as_slice.result.now in
    let weights = c.as_slice-2.result.now in
    let given = sliced nodes id costs children labels.pieces.items pieces labels.weights.items weights c.in_ok-bits.ensures.inputs c.as_slice.ensures.value c.as_slice-2.ensures.value in
    within (length weights) (length c.as_slice-4.result.now) c.in_ok-cheapest.cheapest.rows.items c.as_slice-3.result.now
    (counts nodes id costs children pieces weights given ∙ ap length (sym c.as_slice-4.ensures.value)) c.as_slice-3.ensures.value c.in_ok-cheapest.ensures.labels

pub returns-clause-plan : goal.returns-clause-plan
returns-clause-plan c =
    let nodes = c.args.store.now in
    let id = c.args.id.0 in
    let costs = c.args.costs.now in
    let labels = c.ask.new.self in
    let children = labels.children.nodes.items in
    let pieces = c.as_slice.result.now in
    let weights = c.as_slice-2.result.now in
    let given = sliced nodes id costs children labels.pieces.items pieces labels.weights.items weights c.in_ok-bits.ensures.inputs c.as_slice.ensures.value c.as_slice-2.ensures.value in
    let e = c.in_ok-cheapest.ensures in
    let cheapest = c.in_ok-cheapest.cheapest in
    let rows = cheapest.rows.items in
    planned nodes id costs children pieces weights given c.requires.children rows (rows_of c.in_ok-rows.rows.items) cheapest.cost
    (minimal c.in_ok-bits.bits (width_of (level_of nodes id)) c.in_ok-bits.ensures.bits pieces weights rows cheapest.cost e.right e.labels e.weighs e.least) e.order
    (c.in_ok-rows.ensures ∙ ap (map (led c.as_slice-4.result.now)) c.as_slice-3.ensures.value ∙ ap (λ cs. map (led cs) rows) c.as_slice-4.ensures.value)

pub returns-then-is_empty-clause-plan : goal.returns-then-is_empty-clause-plan
returns-then-is_empty-clause-plan c = leaf_planned c.args.store.now c.args.costs.now c.args.id.0 (rows_of c.new.result.items) (sym c.level-level.ensures.level ∙ no_fields c.level-level.result.now (sym c.if-is_empty.ensures))

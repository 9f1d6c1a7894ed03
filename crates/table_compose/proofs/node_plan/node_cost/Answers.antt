use Rattle.std.proofs.Common.{◌^◌, ◌∙◌, ap, sym, subst}
use Rattle.node_store.specs.Levels.{HasField}
use Rattle.node_store.specs.Diagram.{level_of}
use Rattle.node_store.proofs.Canonical.{not_empty}
use Rattle.table_compose.specs.Plans.{width_of}
use Rattle.table_compose.proofs.Inputs.{sliced, follows, wholes, lights, costed, minimal, within}
use Rattle.table_compose.proofs.Planned.{leaf_costed, no_fields}
use Rattle.table_compose.proofs.node_plan.node_cost.Goals as goal

pub ask-requires-clause-field : goal.ask-requires-clause-field
ask-requires-clause-field c = subst HasField c.level-level.ensures.level (not_empty c.level-level.result.now c.level-level.ensures.within (sym c.if-is_empty.ensures))

pub minimum-requires : goal.minimum-requires
minimum-requires c =
    let nodes = c.args.store.now in
    let id = c.args.id.0 in
    let costs = c.args.costs.now in
    let labels = c.ask.new.self in
    let children = labels.children.nodes.items in
    let pieces = c.as_slice.result.now in
    let weights = c.as_slice-2.result.now in
    let given = sliced nodes id costs children labels.pieces.items pieces labels.weights.items weights c.in_ok-bits.ensures.inputs c.as_slice.ensures.value c.as_slice-2.ensures.value in record {
      wide = c.in_ok-bits.ensures.narrow;
      follow = follows nodes id costs children pieces weights given;
      whole = wholes nodes id costs children pieces weights given ∙ ap (λ w. 2 ^ w) (sym c.in_ok-bits.ensures.bits);
      light = lights nodes id costs children pieces weights given c.requires.children;
    }

pub returns-clause-costed : goal.returns-clause-costed
returns-clause-costed c =
    let nodes = c.args.store.now in
    let id = c.args.id.0 in
    let costs = c.args.costs.now in
    let labels = c.ask.new.self in
    let children = labels.children.nodes.items in
    let pieces = c.as_slice.result.now in
    let weights = c.as_slice-2.result.now in
    let given = sliced nodes id costs children labels.pieces.items pieces labels.weights.items weights c.in_ok-bits.ensures.inputs c.as_slice.ensures.value c.as_slice-2.ensures.value in
    let least = c.in_ok-cost.ensures in
    costed nodes id costs children pieces weights given c.requires.children least.rows c.in_ok-cost.cost
    (minimal c.in_ok-bits.bits (width_of (level_of nodes id)) c.in_ok-bits.ensures.bits pieces weights least.rows c.in_ok-cost.cost least.right least.labels least.weighs least.least)

pub returns-then-is_empty-clause-costed : goal.returns-then-is_empty-clause-costed
returns-then-is_empty-clause-costed c = leaf_costed c.args.store.now c.args.id.0 (sym c.level-level.ensures.level ∙ no_fields c.level-level.result.now (sym c.if-is_empty.ensures))

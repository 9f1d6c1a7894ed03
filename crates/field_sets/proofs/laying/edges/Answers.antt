use Rattle.std.proofs.Common.{arith, ◌+◌, ◌≡◌}
use Rattle.node_store.specs.Diagram.{level_of}
use Rattle.field_sets.proofs.Covering.{shrinks, full, leads, whole, all_children}
use Rattle.field_sets.proofs.laying.edges.Goals as goal

pub loop-edge-smaller : goal.loop-edge-smaller
loop-edge-smaller c =
    shrinks c.loop-edge.filled (c.from-filled.result + 1) c.loop-edge.own.now c.past-own.result.now c.loop-edge.placed.now c.left_past-placed.result.now c.in-Some.edge
    c.past-own.ensures c.left_past-placed.ensures (omega (arith, c.from-filled.ensures)) c.in-Some.ensures

pub returns-clause-full : goal.returns-clause-full
returns-clause-full c = full c.loop-edge.filled c.loop-edge.own.now c.args.own.now c.loop-edge.placed.now c.args.placed.now c.loop-edge.edges.items c.loop-edge.invariant c.in_default.ensures

pub returns-clause-leads : goal.returns-clause-leads
returns-clause-leads c = leads c.loop-edge.filled c.loop-edge.own.now c.args.own.now c.loop-edge.placed.now c.args.placed.now c.loop-edge.edges.items c.loop-edge.invariant c.in_default.ensures

pub returns-clause-children : goal.returns-clause-children
returns-clause-children c = λ nodes level.
    all_children (λ n. level_of nodes n ≡ level) 0 c.loop-edge.edges.items c.args.own.now c.args.placed.now
    (whole c.loop-edge.filled c.loop-edge.own.now c.args.own.now c.loop-edge.placed.now c.args.placed.now c.loop-edge.edges.items c.loop-edge.invariant c.in_default.ensures)

use Rattle.std.proofs.Common.{arith, sym, subst}
use Rattle.node_store.specs.Levels.{HasField, top_of}
use Rattle.node_store.specs.declared.edge.Edge.{Edge}
use Rattle.node_store.specs.Diagram.{level_of}
use Rattle.fdd_ops.proofs.Ends.{at_once, goes_on, most, sooner, later}
use Rattle.fdd_ops.proofs.Heads.{both, less_of, same_to, other_to, passed_heads}
use Rattle.fdd_ops.proofs.Levels.{begun, few, parting}
use Rattle.fdd_ops.proofs.parting.first_parting.Goals as goal

abbrev none : Edge
none = record { hi = 0; to = record { 0 = 0 } }

pub loop-start-init : goal.loop-start-init
loop-start-init c =
    begun _ _ _ c.edges-left.result.now c.edges-right.result.now c.same_answers.ensures.store c.requires.inner c.requires.level c.requires.differ
    c.edges-left.ensures.edges c.edges-right.ensures.edges
    (c.edges-left.ensures.inner c.requires.inner) (c.edges-right.ensures.inner (subst HasField (sym c.requires.level) c.requires.inner))

pub overflow_add-start : goal.overflow_add-start
overflow_add-start c =
    let t = both _ _ _ _ c.loop-start-test.ensures in
    let p = passed_heads _ _ _ _ c.loop-start.left.now c.loop-start.right.now none c.loop-start.invariant t.0 t.1 in
    omega (arith, p.0, few _ c.requires.inner)

pub loop-start-preserved : goal.loop-start-preserved
loop-start-preserved c =
    let t = both _ _ _ _ c.loop-start-test.ensures in
    (passed_heads _ _ _ _ c.loop-start.left.now c.loop-start.right.now none c.loop-start.invariant t.0 t.1).1

pub overflow_add-result : goal.overflow_add-result
overflow_add-result c =
    omega (arith, c.if-left_edge-right_edge.true, most _ _ c.loop-start.right.now none c.loop-start.invariant.right_edges, few _ c.requires.inner)

pub bounds-left-1 : goal.bounds-left-1
bounds-left-1 c =
    goes_on (top_of (level_of c.args.store.now c.args.a.0)) _ c.loop-start.left.now none c.loop-start.invariant.left_edges
    (omega (arith, c.if-left_edge-right_edge.true, most _ _ c.loop-start.right.now none c.loop-start.invariant.right_edges))

pub overflow_add-result-else-left_edge-right_edge : goal.overflow_add-result-else-left_edge-right_edge
overflow_add-result-else-left_edge-right_edge c =
    let less = less_of _ _ _ _ c.loop-start-test.ensures (same_to _ _ c.if-ne.ensures) c.if-left_edge-right_edge.false in
    omega (arith, less, most _ _ c.loop-start.left.now none c.loop-start.invariant.left_edges, few _ c.requires.inner)

pub bounds-right-1 : goal.bounds-right-1
bounds-right-1 c =
    let less = less_of _ _ _ _ c.loop-start-test.ensures (same_to _ _ c.if-ne.ensures) c.if-left_edge-right_edge.false in
    goes_on (top_of (level_of c.args.store.now c.args.a.0)) _ c.loop-start.right.now none c.loop-start.invariant.right_edges
    (omega (arith, less, most _ _ c.loop-start.left.now none c.loop-start.invariant.left_edges))

pub returns-then-ne : goal.returns-then-ne
returns-then-ne c =
    parting _ _ _ _ c.same_answers.ensures.store c.requires.inner c.requires.level
    (at_once _ _ _ _ c.loop-start.left.now c.loop-start.right.now none c.loop-start.invariant (other_to _ _ c.if-ne.ensures))

pub returns-then-left_edge-right_edge : goal.returns-then-left_edge-right_edge
returns-then-left_edge-right_edge c =
    parting _ _ _ _ c.same_answers.ensures.store c.requires.inner c.requires.level
    (sooner _ _ _ _ c.loop-start.left.now c.loop-start.right.now none c.loop-start.invariant (same_to _ _ c.if-ne.ensures) c.if-left_edge-right_edge.true)

pub returns-else-left_edge-right_edge : goal.returns-else-left_edge-right_edge
returns-else-left_edge-right_edge c =
    let same = same_to _ _ c.if-ne.ensures in
    parting _ _ _ _ c.same_answers.ensures.store c.requires.inner c.requires.level
    (later _ _ _ _ c.loop-start.left.now c.loop-start.right.now none c.loop-start.invariant same
    (less_of _ _ _ _ c.loop-start-test.ensures same c.if-left_edge-right_edge.false))

use Rattle.std.proofs.Common.{◌+◌, arith}
use Rattle.std.specs.Prelude.{◌<◌, length, slice_index_or}
use Rattle.node_store.specs.declared.edge.Edge.{Edge}
use Rattle.table_compose.proofs.Edges.{edge_older, marked_all, marked_here, marked_more}
use Rattle.table_compose.proofs.KeptPlans.{learns_here, learns_none, learns_part, learns_twice, less_room, not_marked}
use Rattle.table_compose.proofs.diagram_plans.Plans.+learn_node.Goals as goal

pub returns-then-index-clause-learns : goal.returns-then-index-clause-learns
returns-then-index-clause-learns t c = learns_none c.args.store.now c.args.self.now (c.args.id.0 + 1) c.requires.plans

pub loop-edge-init : goal.loop-edge-init
loop-edge-init t c = record { learns = learns_none c.args.store.now c.args.self.now c.args.id.0 c.requires.plans; known = λ k d less. absurd (omega (arith, less)) }

pub learn_node-requires : goal.learn_node-requires
learn_node-requires t c =
    let d : Edge = record { hi = 0; to = record { 0 = 0 } } in
    let l = c.loop-edge in
    let id = c.args.id.0 in
    let child = (slice_index_or c.edges-edges.result.now l.edge-index d).to.0 in
    let low = edge_older c.args.store.now id c.edges-edges.result.now l.edge-index d c.same_answers.ensures.store c.edges-edges.ensures.edges c.loop-edge-test.true in
    let number = c.requires.number in
    (omega (arith, c.decreases, low), (omega (arith, low, number), (less_room l.self (child + 1) (id + 1) (omega (arith, low)) (l.invariant.learns.room (id + 1) c.requires.room), l.invariant.learns.plans)))

pub index-requires-in-loop-edge : goal.index-requires-in-loop-edge
index-requires-in-loop-edge t c =
    let d : Edge = record { hi = 0; to = record { 0 = 0 } } in
    let l = c.loop-edge in
    let low = edge_older c.args.store.now c.args.id.0 c.edges-edges.result.now l.edge-index d c.same_answers.ensures.store c.edges-edges.ensures.edges c.loop-edge-test.true in
    omega (arith, low, (l.invariant.learns.room (c.args.id.0 + 1) c.requires.room).known, l.self.known.ok.0)

pub loop-edge-preserved-then-index-2 : goal.loop-edge-preserved-then-index-2
loop-edge-preserved-then-index-2 t c =
    let d : Edge = record { hi = 0; to = record { 0 = 0 } } in
    let l = c.loop-edge in
    let low = edge_older c.args.store.now c.args.id.0 c.edges-edges.result.now l.edge-index d c.same_answers.ensures.store c.edges-edges.ensures.edges c.loop-edge-test.true in
    let child = (slice_index_or c.edges-edges.result.now l.edge-index d).to.0 in
    let within : child < length l.self.known.items = omega (arith, low, (l.invariant.learns.room (c.args.id.0 + 1) c.requires.room).known) in
    record {
      learns = l.invariant.learns;
      known = marked_more c.edges-edges.result.now l.edge-index d l.self.known.items l.self.known.items c.loop-edge-test.true (λ k h. h) l.invariant.known
          (marked_here l.self.known.items child c.index-in-loop-edge.result.now within c.index-in-loop-edge.ensures c.if-index-2.true);
    }

pub loop-edge-preserved : goal.loop-edge-preserved
loop-edge-preserved t c =
    let d : Edge = record { hi = 0; to = record { 0 = 0 } } in
    let l = c.loop-edge in
    let id = c.args.id.0 in
    let child = (slice_index_or c.edges-edges.result.now l.edge-index d).to.0 in
    let low = edge_older c.args.store.now id c.edges-edges.result.now l.edge-index d c.same_answers.ensures.store c.edges-edges.ensures.edges c.loop-edge-test.true in
    let nodes = c.args.store.now in record {
      learns = learns_twice nodes c.args.self.now l.self c.learn_node.new.self (child + 1) id (omega (arith, low)) l.invariant.learns c.learn_node.ensures.learns;
      known = marked_more c.edges-edges.result.now l.edge-index d l.self.known.items c.learn_node.new.self.known.items c.loop-edge-test.true c.learn_node.ensures.learns.keeps.known l.invariant.known (c.in_ok-whole.ensures.known c.if-not-whole.false);
    }

pub returns-in_err-whole-clause-learns : goal.returns-in_err-whole-clause-learns
returns-in_err-whole-clause-learns t c =
    let d : Edge = record { hi = 0; to = record { 0 = 0 } } in
    let l = c.loop-edge in
    let nodes = c.args.store.now in
    let id = c.args.id.0 in
    let child = (slice_index_or c.edges-edges.result.now l.edge-index d).to.0 in
    let low = edge_older nodes id c.edges-edges.result.now l.edge-index d c.same_answers.ensures.store c.edges-edges.ensures.edges c.loop-edge-test.true in
    learns_part nodes c.args.self.now l.self c.learn_node.new.self child id low l.invariant.learns c.learn_node.ensures.learns

pub returns-then-not-whole-clause-learns : goal.returns-then-not-whole-clause-learns
returns-then-not-whole-clause-learns t c =
    let d : Edge = record { hi = 0; to = record { 0 = 0 } } in
    let l = c.loop-edge in
    let nodes = c.args.store.now in
    let id = c.args.id.0 in
    let child = (slice_index_or c.edges-edges.result.now l.edge-index d).to.0 in
    let low = edge_older nodes id c.edges-edges.result.now l.edge-index d c.same_answers.ensures.store c.edges-edges.ensures.edges c.loop-edge-test.true in
    learns_part nodes c.args.self.now l.self c.learn_node.new.self child id low l.invariant.learns c.learn_node.ensures.learns

pub work_out-requires-clause-room : goal.work_out-requires-clause-room
work_out-requires-clause-room t c = c.loop-edge.invariant.learns.room (c.args.id.0 + 1) c.requires.room

pub work_out-requires-clause-unknown : goal.work_out-requires-clause-unknown
work_out-requires-clause-unknown t c =
    let l = c.loop-edge in
    not_marked c.args.self.now.known.items l.self.known.items c.args.id.0 c.index.result.now (l.invariant.learns.above c.args.id.0 (omega arith)) c.index.ensures c.if-index.false

pub work_out-requires-clause-children : goal.work_out-requires-clause-children
work_out-requires-clause-children t c =
    let l = c.loop-edge in
    marked_all c.args.store.now c.args.id.0 c.edges-edges.result.now l.edge-index l.self.known.items c.edges-edges.ensures.edges c.loop-edge-test.false l.invariant.known

pub returns-clause-learns : goal.returns-clause-learns
returns-clause-learns t c =
    let l = c.loop-edge in
    learns_here c.args.store.now c.args.self.now l.self c.work_out.new.self c.args.id.0 l.invariant.learns c.work_out.ensures.learns

pub returns-in_err-cost-clause-learns : goal.returns-in_err-cost-clause-learns
returns-in_err-cost-clause-learns t c =
    let l = c.loop-edge in
    learns_here c.args.store.now c.args.self.now l.self c.work_out.new.self c.args.id.0 l.invariant.learns c.work_out.ensures.learns

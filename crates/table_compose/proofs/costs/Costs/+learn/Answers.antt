use Rattle.std.proofs.Common.{◌+◌, arith}
use Rattle.std.specs.Prelude.{◌<◌, length, slice_index_or}
use Rattle.node_store.specs.declared.edge.Edge.{Edge}
use Rattle.table_compose.proofs.Edges.{edge_older, marked_all, marked_here, marked_more}
use Rattle.table_compose.proofs.KeptCosts.{learns_none, learns_twice, less_room}
use Rattle.table_compose.proofs.costs.Costs.+learn.Goals as goal

pub loop-edge-init : goal.loop-edge-init
loop-edge-init t c = record { learns = learns_none c.args.store.now c.args.self.now c.requires.costs; known = λ k d less. absurd (omega (arith, less)) }

pub learn-requires : goal.learn-requires
learn-requires t c =
    let d : Edge = record { hi = 0; to = record { 0 = 0 } } in
    let l = c.loop-edge in
    let id = c.args.id.0 in
    let child = (slice_index_or c.edges-edges.result.now l.edge-index d).to.0 in
    let low = edge_older c.args.store.now id c.edges-edges.result.now l.edge-index d c.same_answers.ensures.store c.edges-edges.ensures.edges c.loop-edge-test.true in
    let number = c.requires.number in
    (omega (arith, c.decreases, low), (omega (arith, low, number), (less_room l.self (child + 1) (id + 1) (omega (arith, low)) (l.invariant.learns.room (id + 1) c.requires.room), l.invariant.learns.costs)))

pub index-requires-in-loop-edge : goal.index-requires-in-loop-edge
index-requires-in-loop-edge t c =
    let d : Edge = record { hi = 0; to = record { 0 = 0 } } in
    let l = c.loop-edge in
    let low = edge_older c.args.store.now c.args.id.0 c.edges-edges.result.now l.edge-index d c.same_answers.ensures.store c.edges-edges.ensures.edges c.loop-edge-test.true in
    omega (arith, low, (l.invariant.learns.room (c.args.id.0 + 1) c.requires.room).known, l.self.known.ok.0)

pub loop-edge-preserved-then-index-2 : goal.loop-edge-preserved-then-index-2
loop-edge-preserved-then-index-2 t c =
    let d : Edge = record { hi = 0; to = record { 0 = 0 } } in
    let l = c.loop-edge in
    let low = edge_older c.args.store.now c.args.id.0 c.edges-edges.result.now l.edge-index d c.same_answers.ensures.store c.edges-edges.ensures.edges c.loop-edge-test.true in
    let child = (slice_index_or c.edges-edges.result.now l.edge-index d).to.0 in
    let within : child < length l.self.known.items = omega (arith, low, (l.invariant.learns.room (c.args.id.0 + 1) c.requires.room).known) in
    record {
      learns = l.invariant.learns;
      known = marked_more c.edges-edges.result.now l.edge-index d l.self.known.items l.self.known.items c.loop-edge-test.true (λ k h. h) l.invariant.known
          (marked_here l.self.known.items child c.index-in-loop-edge.result.now within c.index-in-loop-edge.ensures c.if-index-2.true);
    }

pub loop-edge-preserved : goal.loop-edge-preserved
loop-edge-preserved t c =
    let d : Edge = record { hi = 0; to = record { 0 = 0 } } in
    let l = c.loop-edge in
    let nodes = c.args.store.now in record {
      learns = learns_twice nodes c.args.self.now l.self c.learn.new.self l.invariant.learns c.learn.ensures.learns;
      known = marked_more c.edges-edges.result.now l.edge-index d l.self.known.items c.learn.new.self.known.items c.loop-edge-test.true c.learn.ensures.learns.earlier l.invariant.known c.in_ok-learn.ensures.known;
    }

pub work_out-requires-clause-children : goal.work_out-requires-clause-children
work_out-requires-clause-children t c =
    let l = c.loop-edge in
    marked_all c.args.store.now c.args.id.0 c.edges-edges.result.now l.edge-index l.self.known.items c.edges-edges.ensures.edges c.loop-edge-test.false l.invariant.known

pub returns-in_err-learn-clause-learns : goal.returns-in_err-learn-clause-learns
returns-in_err-learn-clause-learns t c = let l = c.loop-edge in learns_twice c.args.store.now c.args.self.now l.self c.learn.new.self l.invariant.learns c.learn.ensures.learns

pub work_out-requires-clause-room : goal.work_out-requires-clause-room
work_out-requires-clause-room t c = c.loop-edge.invariant.learns.room (c.args.id.0 + 1) c.requires.room

pub returns-clause-learns : goal.returns-clause-learns
returns-clause-learns t c = let l = c.loop-edge in learns_twice c.args.store.now c.args.self.now l.self c.work_out.new.self l.invariant.learns c.work_out.ensures.learns

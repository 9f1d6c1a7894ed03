use Rattle.std.proofs.Common.{◌≡◌, ◌+◌, ◌*◌, ◌<◌, length, take, flat_map}
use Rattle.razor_base.proofs.Writing.{HasPut}
use Rattle.box_query.specs.NodeBoxes.{branches, branch_boxes, front_text, node_boxes}
use Rattle.box_query.proofs.Texts.{begins}
use Rattle.box_query.proofs.walk.Walk.+walk.Given as goal

abbrev pub decreases-boxes : goal.decreases-boxes
decreases-boxes g l = 2 * length l.level.now

abbrev pub decreases-branch : goal.decreases-branch
decreases-branch g l = 2 * length l.level.now + 1

abbrev pub invariant-boxes-loop-edge : goal.invariant-boxes-loop-edge
invariant-boxes-loop-edge g l = record {
  put : HasPut g.K.Sink.written g.K.Sink.faults l.initial.out l.out l.initial.pending l.pending
      (flat_map (λ b. front_text l.line (branch_boxes (node_boxes l.self.store.now l.rest) b)) (take l.edge-index (branches 0 l.edges)));
  count : l.boxes ≡ length (flat_map (branch_boxes (node_boxes l.self.store.now l.rest)) (take l.edge-index (branches 0 l.edges)));
  lo : l.edge-index < length l.edges → l.lo ≡ begins 0 l.edges l.edge-index;
}

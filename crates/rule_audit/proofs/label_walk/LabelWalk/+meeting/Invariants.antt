use Rattle.std.proofs.Common.{◌≡◌, ◌≤◌, ◌+◌, ◌-◌, ◌*◌, ◌∷◌, ◌++◌, ℕ, [], drop, take, length}
use Rattle.field_boxes.specs.Fields.{greatest_of}
use Rattle.node_store.specs.Edges.{child_of}
use Rattle.rule_audit.specs.Meeting.{AreMet, Before}
use Rattle.rule_audit.proofs.Meetings.{RiseFrom}
use Rattle.rule_audit.proofs.label_walk.LabelWalk.+meeting.Given as goal

abbrev pub decreases-node : goal.decreases-node
decreases-node l = 4 * (6 - l.depth) + 3

abbrev pub decreases-worked_out : goal.decreases-worked_out
decreases-worked_out l = 4 * (6 - l.depth) + 2

abbrev pub decreases-edges : goal.decreases-edges
decreases-edges l = 4 * (6 - l.depth) + 1

abbrev pub decreases-edge : goal.decreases-edge
decreases-edge l = 4 * (6 - l.depth)

abbrev pub invariant-edges-loop-edge : goal.invariant-edges-loop-edge
invariant-edges-loop-edge l = record {
  rise : RiseFrom (greatest_of l.fn.depth) l.lo (drop l.edge-index l.edges);
  leads : (v : ℕ) → l.lo ≤ v → child_of l.edges v ≡ child_of (drop l.edge-index l.edges) v;
  count : length l.seen ≡ length l.self.store.now;
  met : AreMet l.self.first l.self.store.now l.self.root.0 (Before (take l.fn.depth l.fn.header.values ++ l.lo ∷ [])) l.seen l.states;
}

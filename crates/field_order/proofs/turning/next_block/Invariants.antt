use Rattle.std.proofs.Common.{◌≡◌, ◌≤◌, ◌<◌, ℕ, List, suc, ◌-◌}
use Rattle.node_store.specs.Edges.{child_of}
use Rattle.node_store.specs.Diagram.{Node}
use Rattle.node_store.specs.Store.{LeadTo}
use Rattle.fdd_build.specs.Sets.{FillBelow}
use Rattle.field_order.proofs.turning.next_block.Given as goal

abbrev pub invariant-loop-filled : goal.invariant-loop-filled
invariant-loop-filled l = record {
  room : l.filled ≤ suc l.top;
  low : l.lo ≤ l.hi;
  high : l.hi ≤ l.top;
  full : FillBelow l.filled l.few.items;
  passed : l.filled ≤ l.top → l.filled ≤ suc l.hi;
  leads : (u : ℕ) → l.lo ≤ u → u ≤ l.hi → u < l.filled → child_of l.few.items u ≡ child_of l.edges u;
  nodes : (nodes : List Node) (level : List ℕ) → LeadTo nodes level l.edges → LeadTo nodes level l.few.items;
}

abbrev pub decreases-loop-filled : goal.decreases-loop-filled
decreases-loop-filled l = suc l.top - l.filled

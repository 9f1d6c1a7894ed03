use Rattle.std.proofs.Common.{◌≡◌, ◌≤◌, ◌<◌, ℕ, suc, ◌-◌}
use Rattle.node_store.specs.Levels.{next, top_of}
use Rattle.node_store.specs.Edges.{child_of}
use Rattle.node_store.specs.Diagram.{edges_of}
use Rattle.node_store.specs.Store.{LeadTo}
use Rattle.fdd_build.specs.Sets.{FillBelow}
use Rattle.field_order.specs.Fronts.{ArePassed}
use Rattle.field_order.proofs.row.splice_row.Given as goal

abbrev pub invariant-loop-filled : goal.invariant-loop-filled
invariant-loop-filled l = record {
  room : l.filled ≤ suc (top_of l.level);
  full : FillBelow l.filled l.row.items;
  nodes : LeadTo l.store (next l.level) l.row.items;
  passed : ArePassed l.cells l.place l.filled;
  leads : (u : ℕ) → u < l.filled → child_of l.row.items u ≡ child_of (edges_of l.store (child_of l.cells u)) u;
}

abbrev pub decreases-loop-filled : goal.decreases-loop-filled
decreases-loop-filled l = suc (top_of l.level) - l.filled

use Rattle.std.proofs.Common.{◌≡◌, ◌≤◌, ◌<◌, ◌∷◌, ℕ, List, suc, ◌-◌}
use Rattle.field_boxes.specs.Fields.{greatest_of}
use Rattle.node_store.specs.Levels.{top_of}
use Rattle.node_store.specs.Edges.{child_of}
use Rattle.node_store.specs.Diagram.{edges_of, answer}
use Rattle.node_store.specs.Store.{Grows, LeadTo}
use Rattle.fdd_build.specs.Sets.{FillBelow}
use Rattle.field_order.proofs.turning.blocks.Given as goal

abbrev pub invariant-loop-filled : goal.invariant-loop-filled
invariant-loop-filled l = record {
  grows : Grows l.fn.store l.store;
  room : l.filled ≤ suc (top_of l.level);
  full : FillBelow l.filled l.made.items;
  nodes : LeadTo l.store (l.field ∷ l.level) l.made.items;
  answers : (v u : ℕ) (values : List ℕ) → v ≤ greatest_of l.field → u < l.filled →
      answer l.store (child_of l.made.items u) (v ∷ u ∷ values) ≡ answer l.fn.store (child_of (edges_of l.fn.store (child_of l.edges u)) v) values;
}

abbrev pub decreases-loop-filled : goal.decreases-loop-filled
decreases-loop-filled l = suc (top_of l.level) - l.filled

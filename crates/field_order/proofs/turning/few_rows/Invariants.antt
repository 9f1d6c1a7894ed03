use Rattle.std.proofs.Common.{◌≡◌, ◌≤◌, ◌<◌, ◌∷◌, ℕ, List, suc, ◌-◌}
use Rattle.field_boxes.specs.Fields.{greatest_of}
use Rattle.node_store.specs.Levels.{top_of}
use Rattle.node_store.specs.Edges.{child_of}
use Rattle.node_store.specs.Diagram.{edges_of, answer}
use Rattle.node_store.specs.Store.{Grows, LeadTo}
use Rattle.fdd_build.specs.Sets.{FillBelow}
use Rattle.field_order.specs.Fronts.{ArePlaces}
use Rattle.field_order.proofs.turning.few_rows.Given as goal

abbrev pub invariant-loop-filled : goal.invariant-loop-filled
invariant-loop-filled l = record {
  grows : Grows l.fn.store l.store;
  room : l.filled ≤ suc (greatest_of l.field);
  full : FillBelow l.filled l.rows.items;
  nodes : LeadTo l.store l.level l.rows.items;
  places : ArePlaces l.store l.edges l.places.items l.filled;
  answers : (v u : ℕ) (values : List ℕ) → v < l.filled → u ≤ top_of l.level →
      answer l.store (child_of l.rows.items v) (u ∷ values) ≡ answer l.fn.store (child_of (edges_of l.fn.store (child_of l.edges u)) v) values;
}

abbrev pub decreases-loop-filled : goal.decreases-loop-filled
decreases-loop-filled l = suc (greatest_of l.field) - l.filled

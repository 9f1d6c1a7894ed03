use Rattle.std.proofs.Common.{◌≡◌, ◌<◌, ◌≤◌, ◌+◌, ℕ, List, take, drop}
use Rattle.std.specs.Prelude.{cond, false}
use Rattle.field_boxes.specs.Headline.Classifier.{union_holds}
use Rattle.field_boxes.specs.Spans.{intervals_of}
use Rattle.field_boxes.specs.Unions.{RiseApart}
use Rattle.node_store.specs.Diagram.{Node, level_of}
use Rattle.node_store.specs.Edges.{child_of}
use Rattle.node_store.specs.Store.{LeadTo}
use Rattle.fdd_build.specs.Sets.{FillBelow}
use Rattle.fdd_build.proofs.fork.edges.Given as goal

abbrev pub invariant-loop-span : goal.invariant-loop-span
invariant-loop-span l = record {
  full : FillBelow l.filling.filled l.filling.edges.items;
  rest : RiseApart l.filling.filled l.greatest (intervals_of (drop l.span-index l.set));
  leads : (v : ℕ) → v < l.filling.filled →
      child_of l.filling.edges.items v ≡ cond (union_holds v (intervals_of (take l.span-index l.set))) l.inside.0 l.outside.0;
  past : (v : ℕ) → l.filling.filled ≤ v → union_holds v (intervals_of (take l.span-index l.set)) ≡ false;
  within : l.filling.filled < l.greatest + 2;
  children : (nodes : List Node) (level : List ℕ) → level_of nodes l.inside.0 ≡ level → level_of nodes l.outside.0 ≡ level → LeadTo nodes level l.filling.edges.items;
}

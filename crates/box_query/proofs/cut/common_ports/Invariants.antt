use Rattle.std.proofs.Common.{◌≡◌, ◌∷◌, ◌≤◌, ℕ, [], length, take, ◌&&◌}
use Rattle.field_boxes.specs.Headline.Classifier.{union_holds}
use Rattle.field_boxes.specs.Spans.{interval_of, intervals_of}
use Rattle.box_query.specs.Cut.{AreLow}
use Rattle.box_query.proofs.cut.common_ports.Given as goal

abbrev pub invariant-loop-span : goal.invariant-loop-span
invariant-loop-span l = record {
  values : (v : ℕ) → union_holds v (intervals_of l.kept.items) ≡ (union_holds v (intervals_of (take l.span-index l.span-items)) && union_holds v (interval_of l.to ∷ []));
  few : length l.kept.items ≤ l.span-index;
  low : AreLow l.kept.items;
}

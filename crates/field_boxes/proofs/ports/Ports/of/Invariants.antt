use Rattle.std.proofs.Common.{◌≡◌, ◌≤◌, ◌<◌, ℕ, length, take}
use Rattle.field_boxes.specs.Headline.Classifier.{union_holds}
use Rattle.field_boxes.specs.Spans.{intervals_of}
use Rattle.field_boxes.specs.Unions.{RiseApart}
use Rattle.field_boxes.proofs.ports.Ports.of.Given as goal

abbrev pub invariant-loop-span : goal.invariant-loop-span
invariant-loop-span l = record {
  few : length l.list ≤ l.span-index;
  some : 0 < l.span-index → 1 ≤ length l.list;
  rise : RiseApart 0 65535 l.list;
  same : (v : ℕ) → union_holds v l.list ≡ union_holds v (intervals_of (take l.span-index l.spans));
}

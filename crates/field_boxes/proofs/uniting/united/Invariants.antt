use Rattle.std.proofs.Common.{◌≡◌, ◌≤◌, ◌++◌, ◌∷◌, [], ℕ, length, take, drop}
use Rattle.std.specs.Prelude.{◌||◌}
use Rattle.field_boxes.specs.Headline.Classifier.{interval_holds, union_holds}
use Rattle.field_boxes.specs.Spans.{interval_of, intervals_of}
use Rattle.field_boxes.specs.Unions.{RiseApart}
use Rattle.field_boxes.proofs.uniting.united.Given as goal

abbrev pub invariant-loop-next : goal.invariant-loop-next
invariant-loop-next l = record {
  few : length l.uniting.lower ≤ l.next-index;
  within : l.uniting.last.hi ≤ 65535;
  last : RiseApart 0 65535 (l.uniting.lower ++ interval_of l.uniting.last ∷ []);
  rest : RiseApart 0 65535 (l.uniting.lower ++ intervals_of (drop l.next-index l.next-items));
  same : (v : ℕ) → union_holds v (l.uniting.lower ++ interval_of l.uniting.last ∷ []) ≡ (union_holds v (intervals_of (take l.next-index l.next-items)) || interval_holds v (interval_of l.fn.span));
}

-- Sets of values by spans.
use Rattle.std.specs.Prelude.{ℕ, ◌+◌, ◌≤◌, Bool, List, [], ◌∷◌, map}
use Rattle.std.specs.List.{list_any}
use Rattle.field_boxes.specs.declared.span.Span.{Span}
use Rattle.field_boxes.specs.Headline.Classifier.{interval_holds}
use Rattle.field_boxes.specs.Spans.{interval_of}

-- the values of a span, as a set
abbrev pub values_of : Span → ℕ → Bool
values_of span v = interval_holds v (interval_of span)

-- the values of spans, as a set
abbrev pub union_of : List Span → ℕ → Bool
union_of spans v = list_any (interval_holds v) (map interval_of spans)

-- the spans rise from low on, and between two neighbours a value is missing
abbrev pub AreApart : ℕ → List Span → Type 0
AreApart low [] = Unit {0}
AreApart low (s ∷ spans) = (low ≤ s.lo) × AreApart (s.hi + 2) spans

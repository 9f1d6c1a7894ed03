-- Spans as intervals, and boxes of a set of values for each field.
use Rattle.std.specs.Prelude.{ℕ, ◌<◌, ◌≤◌, List, map, slice_index_or}
use Rattle.field_boxes.specs.declared.span.Span.{Span}
use Rattle.field_boxes.specs.Fields.{greatest_of}
use Rattle.field_boxes.specs.Headline.Classifier.{Interval}

abbrev pub interval_of : Span → Interval
interval_of s = record { lo = s.lo; hi = s.hi }

-- spans as intervals
abbrev pub intervals_of : List Span → List Interval
intervals_of spans = map interval_of spans

-- each span reaches no further than its field
abbrev pub AreInside : List Span → Type 0
AreInside spans = (k : ℕ) (d : Span) → k < 5 → (slice_index_or spans k d).hi ≤ greatest_of k

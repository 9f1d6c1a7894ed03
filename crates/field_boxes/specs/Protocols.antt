-- Sets of protocols that a list can name.
use Rattle.std.specs.Prelude.{◌==◌, nat_le, ◌&&◌, ◌||◌, Bool, IsTrue}
use Rattle.field_boxes.specs.declared.span.Span.{Span}
use Rattle.field_boxes.specs.Headline.Classifier.{Interval}
use Rattle.field_boxes.specs.Spans.{interval_of}

-- one value, or the whole field
abbrev pub is_protocol : Interval → Bool
is_protocol i = (i.lo == i.hi && nat_le i.hi 255) || (i.lo == 0 && i.hi == 255)

-- the span is such a set
abbrev pub IsProtocol : Span → Type 0
IsProtocol span = IsTrue (is_protocol (interval_of span))

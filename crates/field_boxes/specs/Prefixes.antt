-- Spans that are prefixes of a field.
use Rattle.std.specs.Prelude.{◌≡◌, ℕ}
use Rattle.field_boxes.specs.declared.prefix.Prefix.{Prefix}
use Rattle.field_boxes.specs.declared.span.Span.{Span}
use Rattle.field_boxes.specs.Headline.Prefix.{FitsWidth}
use Rattle.field_boxes.specs.Prefix.{prefix_interval}
use Rattle.field_boxes.specs.Spans.{interval_of}

-- the span has the values of some prefix of a field of so many bits
abbrev pub IsPrefix : ℕ → Span → Type 0
IsPrefix width span = ∥ ((prefix : Prefix) × FitsWidth width prefix × (interval_of span ≡ prefix_interval width prefix)) ∥₁

-- The text of a port column, range by range.
use Rattle.std.proofs.Common.{◌≡◌, ◌∷◌, ◌++◌, ℕ, ◌≤◌, List, [], ap, sym, arith, length, get_or, drop, append-nil, flat_map}
use Rattle.field_boxes.specs.declared.span.Span.{Span}
use Rattle.field_boxes.specs.Spans.{interval_of, intervals_of}
use Rattle.filter_reader.specs.ListText.{ports_text, range_text}

-- a span behind a ','
abbrev pub more_text : Span → List ℕ
more_text s = 44 ∷ range_text (interval_of s)

ports_text-more : (s : Span) (spans : List Span) → ports_text (intervals_of (s ∷ spans)) ≡ range_text (interval_of s) ++ flat_map more_text spans
ports_text-more s [] = sym (append-nil (range_text (interval_of s)))
ports_text-more s (t ∷ spans) = ap (λ text. range_text (interval_of s) ++ 44 ∷ text) (ports_text-more t spans)

-- the text of spans, by the first of them
pub ports_text-first : (spans : List Span) (d : Span) → 1 ≤ length spans → ports_text (intervals_of spans) ≡ range_text (interval_of (get_or spans 0 d)) ++ flat_map more_text (drop 1 spans)
ports_text-first [] d some = absurd (omega arith)
ports_text-first (s ∷ spans) d some = ports_text-more s spans

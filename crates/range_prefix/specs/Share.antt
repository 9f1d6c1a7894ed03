-- How much of a prefix some spans have.
use Rattle.std.specs.Prelude.{◌≡◌, ℕ, ◌<◌, List, [], ◌∷◌, ◌++◌}
use Rattle.field_boxes.specs.declared.prefix.Prefix.{Prefix}
use Rattle.field_boxes.specs.declared.span.Span.{Span}
use Rattle.field_boxes.specs.Headline.Prefix.{FitsWidth}
use Rattle.range_prefix.specs.declared.share.Halved.{Halved}
use Rattle.range_prefix.specs.declared.share.Share.{Share}
use Rattle.range_prefix.specs.declared.share.Share.TheVariants.{Nothing, Whole, Part}
use Rattle.range_prefix.specs.Shortest.{shortest_below}
use Rattle.range_prefix.specs.Spans.{AreApart, union_of}

-- two longer prefixes of the field, for whose values together other spans need the prefixes that the spans need for p
pub record SharesOut (width : ℕ) (spans : List Span) (p : Prefix) (h : Halved) : Type 0 where
  pub apart : AreApart 0 h.spans.now
  pub low_fits : FitsWidth width h.low
  pub high_fits : FitsWidth width h.high
  pub low_longer : p.len < h.low.len
  pub high_longer : p.len < h.high.len
  pub joined : shortest_below width (union_of spans) p ≡ shortest_below width (union_of h.spans.now) h.low ++ shortest_below width (union_of h.spans.now) h.high

-- which prefixes the spans need for the values of p
abbrev pub IsShare : ℕ → List Span → Prefix → Share → Type 0
IsShare width spans p Nothing = shortest_below width (union_of spans) p ≡ []
IsShare width spans p Whole = shortest_below width (union_of spans) p ≡ p ∷ []
IsShare width spans p (Part h) = SharesOut width spans p h

-- A list of spans in place, as it is made and as it grows.
use Rattle.std.proofs.Common.{◌≡◌, ℕ, ◌+◌, ◌-◌, ◌≤◌, ◌<◌, List, length, drop, replicate, ◌++◌, arith, ap, refl, sym, ◌∙◌, set}
use Rattle.std.specs.Prelude.{Bool, ◌&&◌, map, nat_eq}
use lib.Pointwise.{pointwise}
use Rattle.std.proofs.lemmas.List.{length-set, drop-set-lt, drop-drop, drop-replicate}
use Rattle.field_boxes.specs.SpanLists.{filling, span_of, listed, fields_of, fields_kept, IsFilled, with_hi}
use Rattle.field_boxes.specs.Headline.Classifier.{Interval}
use Rattle.field_boxes.specs.declared.span.Span.{Span}
use Rattle.field_boxes.specs.declared.span_list.SpanList.TheInside.{Inside}

-- sixteen spans of the value 0, of which none counts
pub empty : (h : 0 ≤ 0) → IsFilled (record { spans = replicate 16 (record { lo = 0; hi = 0; ordered = h }); count = 0 })
empty h = record {
  few = omega arith;
  room = refl;
  rest = ap (replicate 16) (with_hi filling 0 h refl);
}

rest_after : (k : ℕ) → k < 16 → drop 1 (replicate (16 - k) filling) ≡ replicate (16 - (k + 1)) filling
rest_after k h = drop-replicate 1 (16 - k) filling ∙ ap (λ n. replicate n filling) (omega arith)

pub pushed : (l : Inside) (s : Span) → IsFilled l → l.count < 16 → IsFilled (record { spans = set l.spans l.count s; count = l.count + 1 })
pushed l s h room = record {
  few = omega arith;
  room = length-set l.spans l.count s ∙ h.room;
  rest = drop-set-lt (l.count + 1) l.spans l.count s (omega arith) ∙ sym (drop-drop 1 l.count l.spans) ∙ ap (drop 1) h.rest ∙ rest_after l.count room;
}

fields_at : (l : Inside) (is : List Interval) → IsFilled l → listed l ≡ is → l ≡ fields_of is
fields_at l is h e = sym (fields_kept l h) ∙ ap fields_of e

-- equal fields, said of the intervals that they are seen as
pub equal_by : (eq : Span → Span → Bool) (a b : Inside) (xs ys : List Interval) (r s : Bool) → IsFilled a → IsFilled b → listed a ≡ xs → listed b ≡ ys →
    s ≡ pointwise eq a.spans b.spans → r ≡ (s && nat_eq a.count b.count) →
    r ≡ (pointwise eq (map span_of xs ++ replicate (16 - length xs) filling) (map span_of ys ++ replicate (16 - length ys) filling) && nat_eq (length xs) (length ys))
equal_by eq a b xs ys r s ha hb p q spans all =
    all ∙ ap (λ t. t && nat_eq a.count b.count) spans
    ∙ ap (λ (l : Inside). pointwise eq l.spans b.spans && nat_eq l.count b.count) (fields_at a xs ha p)
    ∙ ap (λ (l : Inside). pointwise eq (fields_of xs).spans l.spans && nat_eq (fields_of xs).count l.count) (fields_at b ys hb q)

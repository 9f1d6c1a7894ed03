-- Spans that lie in place, with a filling behind them.
use Rattle.std.specs.Prelude.{◌≡◌, ℕ, ◌-◌, ◌≤◌, max, List, [], ◌∷◌, ◌++◌, length, map, take, drop, replicate}
use Rattle.std.proofs.Common.{ap, subst, refl, sym, ◌∙◌}
use Rattle.std.proofs.Math.Nat.{le_refl, le-max_left, max-eq_right}
use Rattle.std.proofs.lemmas.List.{length-map, length-take-le, take-append-drop}
use Rattle.std.specs.Coded.{le_prop}
use Rattle.razor_limits.specs.declared.limits.TheConstants.{MOST_RANGES}
use Rattle.field_boxes.specs.Headline.Classifier.{Interval}
use Rattle.field_boxes.specs.Spans.{interval_of, intervals_of}
use Rattle.field_boxes.specs.declared.span.Span.{Span}
use Rattle.field_boxes.specs.declared.span_list.SpanList.TheInside.{Inside}

-- the span of the value 0 alone
abbrev pub filling : Span
filling = record { lo = 0; hi = 0; ordered = le_refl 0 }

-- the span with the ends of an interval
abbrev pub span_of : Interval → Span
span_of i = record { lo = i.lo; hi = max i.lo i.hi; ordered = le-max_left i.lo i.hi }

-- the spans that count, as intervals
abbrev pub listed : Inside → List Interval
listed l = intervals_of (take l.count l.spans)

-- there is room for 16 spans, and behind those that count lies filling
pub record IsFilled (l : Inside) : Type 0 where
  pub few : l.count ≤ MOST_RANGES
  pub room : length l.spans ≡ MOST_RANGES
  pub rest : drop l.count l.spans ≡ replicate (MOST_RANGES - l.count) filling

-- the fields of a list of intervals
abbrev pub fields_of : List Interval → Inside
fields_of is = record { spans = map span_of is ++ replicate (MOST_RANGES - length is) filling; count = length is }

-- Intervals tell the fields: the rest of this file.

pub with_hi : (s : Span) (hi : ℕ) (h : s.lo ≤ hi) → hi ≡ s.hi → (let t : Span = record { lo = s.lo; hi = hi; ordered = h } in t) ≡ s
with_hi s hi h e =
    subst (λ (top : ℕ). (p : s.lo ≤ top) → (let t : Span = record { lo = s.lo; hi = hi; ordered = h } in t) ≡ (let u : Span = record { lo = s.lo; hi = top; ordered = p } in u)) e
    (λ p. ap (λ (q : s.lo ≤ hi). let u : Span = record { lo = s.lo; hi = hi; ordered = q } in u) (le_prop h p)) s.ordered

pub same_spans : (spans : List Span) → map span_of (intervals_of spans) ≡ spans
same_spans [] = refl
same_spans (s ∷ spans) =
    ap (λ t. t ∷ map span_of (intervals_of spans)) (with_hi s (max s.lo s.hi) (le-max_left s.lo s.hi) (max-eq_right s.ordered))
    ∙ ap (λ ts. s ∷ ts) (same_spans spans)

pub count_of : (l : Inside) → IsFilled l → length (listed l) ≡ l.count
count_of l h = length-map (take l.count l.spans) interval_of ∙ length-take-le l.count l.spans (subst (λ n. l.count ≤ n) (sym h.room) h.few)

fields_by : (l : Inside) (n : ℕ) → n ≡ l.count → IsFilled l →
    (let a : Inside = record { spans = take l.count l.spans ++ replicate (MOST_RANGES - n) filling; count = n } in a) ≡ l
fields_by l n e h =
    ap (λ (k : ℕ). let a : Inside = record { spans = take l.count l.spans ++ replicate (MOST_RANGES - k) filling; count = k } in a) e
    ∙ ap (λ (rest : List Span). let a : Inside = record { spans = take l.count l.spans ++ rest; count = l.count } in a) (sym h.rest)
    ∙ ap (λ (ss : List Span). let a : Inside = record { spans = ss; count = l.count } in a) (take-append-drop l.count l.spans)

pub fields_kept : (l : Inside) → IsFilled l → fields_of (listed l) ≡ l
fields_kept l h =
    ap (λ (ss : List Span). let a : Inside = record { spans = ss ++ replicate (MOST_RANGES - length (listed l)) filling; count = length (listed l) } in a) (same_spans (take l.count l.spans))
    ∙ fields_by l (length (listed l)) (count_of l h) h

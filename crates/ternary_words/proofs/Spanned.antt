-- The spans of five prefixes: they lie inside their fields, and their box is what the prefixes hold.
use Rattle.std.proofs.Common.{◌≡◌, ◌∷◌, ℕ, zero, suc, ◌+◌, ◌-◌, ◌^◌, ◌≤◌, Bool, true, false, ◌&&◌, ◌||◌, List, [], ap, refl, ◌∙◌, arith}
use Rattle.std.proofs.lemmas.Nat.{pow_pos}
use Rattle.field_boxes.specs.Boxes.{box_holds, box_of}
use Rattle.field_boxes.specs.Headline.Classifier.{Interval, interval_holds, union_holds}
use Rattle.field_boxes.specs.Headline.Fields.{AreValues, stated}
use Rattle.field_boxes.specs.Headline.Prefix.{FitsWidth, prefix_holds}
use Rattle.field_boxes.specs.Prefix.{prefix_interval}
use Rattle.field_boxes.specs.Spans.{AreInside, interval_of}
use Rattle.field_boxes.specs.declared.prefix.Prefix.{Prefix}
use Rattle.field_boxes.specs.declared.span.Span.{Span}
use Rattle.field_boxes.proofs.Prefixes.{interval-prefix, whole_step_within}
use Rattle.ternary_words.specs.Prefixes.{all_hold}

-- the span of a prefix of a field
pub record IsSpanOf (w : ℕ) (s : Span) (p : Prefix) : Type 0 where
  pub fits : FitsWidth w p
  pub same : interval_of s ≡ prefix_interval w p

top_of : (w : ℕ) (s : Span) (p : Prefix) → IsSpanOf w s p → s.hi ≤ 2 ^ w - 1
top_of w s p h =
    let fits = h.fits in
    let top : s.hi ≡ p.value + (2 ^ (w - p.len) - 1) = ap (λ (i : Interval). i.hi) h.same in
    let step = whole_step_within w p.len p.value fits.len fits.small fits.low in
    let positive = pow_pos (w - p.len) in
    omega (arith, top, step, positive)

pub inside_five : (s0 s1 s2 s3 s4 : Span) (p0 p1 p2 p3 p4 : Prefix) → IsSpanOf 32 s0 p0 → IsSpanOf 32 s1 p1 → IsSpanOf 16 s2 p2 → IsSpanOf 16 s3 p3 → IsSpanOf 8 s4 p4 →
    AreInside (s0 ∷ s1 ∷ s2 ∷ s3 ∷ s4 ∷ [])
inside_five s0 s1 s2 s3 s4 p0 p1 p2 p3 p4 h0 h1 h2 h3 h4 zero d k = top_of 32 s0 p0 h0
inside_five s0 s1 s2 s3 s4 p0 p1 p2 p3 p4 h0 h1 h2 h3 h4 (suc zero) d k = top_of 32 s1 p1 h1
inside_five s0 s1 s2 s3 s4 p0 p1 p2 p3 p4 h0 h1 h2 h3 h4 (suc (suc zero)) d k = top_of 16 s2 p2 h2
inside_five s0 s1 s2 s3 s4 p0 p1 p2 p3 p4 h0 h1 h2 h3 h4 (suc (suc (suc zero))) d k = top_of 16 s3 p3 h3
inside_five s0 s1 s2 s3 s4 p0 p1 p2 p3 p4 h0 h1 h2 h3 h4 (suc (suc (suc (suc zero)))) d k = top_of 8 s4 p4 h4
inside_five s0 s1 s2 s3 s4 p0 p1 p2 p3 p4 h0 h1 h2 h3 h4 (suc (suc (suc (suc (suc n))))) d k = absurd (omega arith)

or_false : (b : Bool) → (b || false) ≡ b
or_false true = refl
or_false false = refl

-- one field
union_of : (w v : ℕ) (s : Span) (p : Prefix) → IsSpanOf w s p → union_holds v (interval_of s ∷ []) ≡ prefix_holds w p v
union_of w v s p h =
    let fits = h.fits in
    or_false (interval_holds v (interval_of s)) ∙ ap (interval_holds v) h.same ∙ interval-prefix (w - p.len) p.value v fits.low

pub five_tests : (a b c d e a' b' c' d' e' : Bool) → a ≡ a' → b ≡ b' → c ≡ c' → d ≡ d' → e ≡ e' → (a && (b && (c && (d && (e && true))))) ≡ (a' && (b' && (c' && (d' && (e' && true)))))
five_tests a b c d e a' b' c' d' e' h0 h1 h2 h3 h4 = cc

pub box_five : (s0 s1 s2 s3 s4 : Span) (p0 p1 p2 p3 p4 : Prefix) → IsSpanOf 32 s0 p0 → IsSpanOf 32 s1 p1 → IsSpanOf 16 s2 p2 → IsSpanOf 16 s3 p3 → IsSpanOf 8 s4 p4 →
    (values : List ℕ) → AreValues stated values → box_holds (box_of (s0 ∷ s1 ∷ s2 ∷ s3 ∷ s4 ∷ [])) values ≡ all_hold stated (p0 ∷ p1 ∷ p2 ∷ p3 ∷ p4 ∷ []) values
box_five s0 s1 s2 s3 s4 p0 p1 p2 p3 p4 h0 h1 h2 h3 h4 [] are = absurd are
box_five s0 s1 s2 s3 s4 p0 p1 p2 p3 p4 h0 h1 h2 h3 h4 (a ∷ []) are = absurd are.1
box_five s0 s1 s2 s3 s4 p0 p1 p2 p3 p4 h0 h1 h2 h3 h4 (a ∷ b ∷ []) are = absurd are.1.1
box_five s0 s1 s2 s3 s4 p0 p1 p2 p3 p4 h0 h1 h2 h3 h4 (a ∷ b ∷ c ∷ []) are = absurd are.1.1.1
box_five s0 s1 s2 s3 s4 p0 p1 p2 p3 p4 h0 h1 h2 h3 h4 (a ∷ b ∷ c ∷ d ∷ []) are = absurd are.1.1.1.1
box_five s0 s1 s2 s3 s4 p0 p1 p2 p3 p4 h0 h1 h2 h3 h4 (a ∷ b ∷ c ∷ d ∷ e ∷ []) are =
    five_tests _ _ _ _ _ _ _ _ _ _ (union_of 32 a s0 p0 h0) (union_of 32 b s1 p1 h1) (union_of 16 c s2 p2 h2) (union_of 16 d s3 p3 h3) (union_of 8 e s4 p4 h4)
box_five s0 s1 s2 s3 s4 p0 p1 p2 p3 p4 h0 h1 h2 h3 h4 (a ∷ b ∷ c ∷ d ∷ e ∷ f ∷ more) are = absurd are.1.1.1.1.1

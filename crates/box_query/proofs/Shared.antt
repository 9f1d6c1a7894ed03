-- Values that two intervals, or a set of ports and an interval, have in common.
use Rattle.std.proofs.Common.{◌≡◌, ◌∷◌, ◌++◌, ℕ, zero, suc, ◌+◌, ◌<◌, ◌≤◌, List, [], Bool, true, false, refl, ap, sym, ◌∙◌, arith, length, get_or, take, ◌&&◌, ◌||◌, nat_le}
use Rattle.std.proofs.lemmas.Bool.{and_parts, and_from, le-leb, leb-true}
use Rattle.std.proofs.Math.Bool.{or-false}
use Rattle.std.proofs.lemmas.List.{take_more}
use Rattle.field_boxes.specs.declared.span.Span.{Span}
use Rattle.field_boxes.specs.Headline.Classifier.{Interval, interval_holds, union_holds}
use Rattle.field_boxes.specs.Spans.{interval_of, intervals_of}
use Rattle.field_boxes.specs.Unions.{RiseApart}
use Rattle.box_query.specs.Cut.{both_hold}

pub interval-true : (v : ℕ) (i : Interval) → union_holds v (i ∷ []) ≡ true → (i.lo ≤ v) × (v ≤ i.hi)
interval-true v i h =
    let b = and_parts (nat_le i.lo v) (nat_le v i.hi) (sym (or-false (interval_holds v i)) ∙ h) in (leb-true i.lo v b.0, leb-true v i.hi b.1)

pub true-interval : (v : ℕ) (i : Interval) → i.lo ≤ v → v ≤ i.hi → union_holds v (i ∷ []) ≡ true
true-interval v i low high = or-false (interval_holds v i) ∙ and_from (nat_le i.lo v) (nat_le v i.hi) (le-leb i.lo v low) (le-leb v i.hi high)

or-assoc : (a b c : Bool) → (a || (b || c)) ≡ ((a || b) || c)
or-assoc true b c = refl
or-assoc false b c = refl

-- one more span
pub union-push : (v : ℕ) (xs : List Span) (s : Span) → union_holds v (intervals_of (xs ++ s ∷ [])) ≡ (union_holds v (intervals_of xs) || union_holds v (interval_of s ∷ []))
union-push v [] s = refl
union-push v (x ∷ xs) s =
    ap (λ b. interval_holds v (interval_of x) || b) (union-push v xs s) ∙ or-assoc (interval_holds v (interval_of x)) (union_holds v (intervals_of xs)) (union_holds v (interval_of s ∷ []))

or-and : (a b t : Bool) → ((a && t) || (b && t)) ≡ ((a || b) && t)
or-and true true true = refl
or-and true true false = refl
or-and true false true = refl
or-and true false false = refl
or-and false b t = refl

-- one more span of the set
pub common-more : (v : ℕ) (spans : List Span) (k : ℕ) (s d : Span) (to : Interval) (before after : Bool) → k < length spans → s ≡ get_or spans k d →
    before ≡ (union_holds v (intervals_of (take k spans)) && union_holds v (to ∷ [])) → after ≡ (before || both_hold v (interval_of s) to) →
    after ≡ (union_holds v (intervals_of (take (k + 1) spans)) && union_holds v (to ∷ []))
common-more v spans k s d to before after less is e step =
    step ∙ ap (λ b. b || both_hold v (interval_of s) to) e
    ∙ or-and (union_holds v (intervals_of (take k spans))) (union_holds v (interval_of s ∷ [])) (union_holds v (to ∷ []))
    ∙ ap (λ b. b && union_holds v (to ∷ [])) (sym (union-push v (take k spans) s) ∙ ap (λ (ys : List Span). union_holds v (intervals_of ys)) (ap (λ (x : Span). take k spans ++ x ∷ []) is ∙ sym (take_more spans k d less)))

-- no span of a set of ports reaches further than the set
pub rise-low : (spans : List Span) (low top : ℕ) → RiseApart low top (intervals_of spans) → (k : ℕ) (d : Span) → k < length spans → (get_or spans k d).hi ≤ top
rise-low [] low top r k d h = absurd (omega (arith, h))
rise-low (s ∷ spans) low top r zero d h = r.2
rise-low (s ∷ spans) low top r (suc k) d h = rise-low spans (s.hi + 2) top r.3 k d (omega (arith, h))

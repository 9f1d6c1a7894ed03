-- A rising list of intervals with one more interval, at each place where it may go.
use Rattle.std.proofs.Common.{◌≡◌, ℕ, ◌+◌, ◌≤◌, ◌<◌, List, [], ◌∷◌, ◌++◌, arith, refl, sym, ◌∙◌, ap, take, drop, length, get_or}
use Rattle.std.specs.Prelude.{Bool, true, false, ◌||◌, min, max}
use Rattle.std.specs.List.{list_any}
use Rattle.std.proofs.lemmas.List.{append_assoc, drop_more}
use Rattle.std.proofs.lemmas.List.Folds.{list_any_more}
use Rattle.field_boxes.specs.Headline.Classifier.{Interval, interval_holds, union_holds}
use Rattle.field_boxes.specs.Unions.{RiseApart}
use Rattle.field_boxes.specs.Spans.{interval_of, intervals_of}
use Rattle.field_boxes.specs.declared.span.Span.{Span}
use Rattle.field_boxes.proofs.FirstSeen.{list_any-map}
use Rattle.field_boxes.proofs.Unions.{weaken, with_tail}

module _ (top : ℕ) (lower rest : List Interval) (last next : Interval) where
  -- the next one goes below the last one
  pub below_last : next.hi + 1 < last.lo → RiseApart 0 top (lower ++ last ∷ []) → RiseApart 0 top (lower ++ next ∷ rest) →
      RiseApart 0 top (lower ++ next ∷ [] ++ last ∷ []) × RiseApart 0 top (lower ++ next ∷ [] ++ rest)
  below_last h a b = (
    rw append_assoc (with_tail 0 top lower (last ∷ []) (next ∷ rest) (next ∷ last ∷ [])
        (λ l p n. let up = p.1 in (n.0, n.1, n.2, (omega arith, p.1, p.2, tt))) a b),
    rw append_assoc b,
  )

  -- the next one goes above the last one
  pub above_last : last.hi + 1 < next.lo → RiseApart 0 top (lower ++ last ∷ []) → RiseApart 0 top (lower ++ next ∷ rest) →
      RiseApart 0 top (lower ++ last ∷ [] ++ next ∷ []) × RiseApart 0 top (lower ++ last ∷ [] ++ rest)
  above_last h a b = (
    rw append_assoc (with_tail 0 top lower (last ∷ []) (next ∷ rest) (last ∷ next ∷ [])
        (λ l p n. (p.0, p.1, p.2, (omega arith, n.1, n.2, tt))) a b),
    rw append_assoc (with_tail 0 top lower (last ∷ []) (next ∷ rest) (last ∷ rest)
        (λ l p n. (p.0, p.1, p.2, weaken (last.hi + 2) (next.hi + 2) top rest (let up = n.1 in omega arith) n.3)) a b),
  )

  -- the two become one
  pub as_one : (one : Interval) → one.lo ≡ min last.lo next.lo → one.hi ≡ max last.hi next.hi → RiseApart 0 top (lower ++ last ∷ []) → RiseApart 0 top (lower ++ next ∷ rest) →
      RiseApart 0 top (lower ++ one ∷ []) × RiseApart 0 top (lower ++ rest)
  as_one one lo hi a b = (
    with_tail 0 top lower (last ∷ []) (next ∷ rest) (one ∷ [])
        (λ l p n. let p0 = p.0 in let p1 = p.1 in let p2 = p.2 in let n0 = n.0 in let n1 = n.1 in let n2 = n.2 in (omega arith, omega arith, omega arith, tt)) a b,
    with_tail 0 top lower (last ∷ []) (next ∷ rest) rest
        (λ l p n. let n0 = n.0 in let n1 = n.1 in weaken l (next.hi + 2) top rest (omega arith) n.3) a b,
  )

-- what comes next ends by the top
pub ends : (low top : ℕ) (front rest : List Interval) (i : Interval) → RiseApart low top (front ++ i ∷ rest) → i.hi ≤ top
ends low top [] rest i rise = rise.2
ends low top (j ∷ front) rest i rise = ends (j.hi + 2) top front rest i rise.3

-- the rest of the spans begins with the next one
pub next_of_rest : (spans : List Span) (k : ℕ) (s : Span) → k < length spans → s ≡ get_or spans k s → intervals_of (drop k spans) ≡ interval_of s ∷ intervals_of (drop (k + 1) spans)
next_of_rest spans k s h at = ap intervals_of (drop_more spans k s h ∙ ap (λ t. t ∷ drop (k + 1) spans) (sym at))

-- one more span has one more interval's values
pub union_more : (v : ℕ) (spans : List Span) (k : ℕ) (s : Span) → k < length spans → s ≡ get_or spans k s →
    union_holds v (intervals_of (take (k + 1) spans)) ≡ (union_holds v (intervals_of (take k spans)) || interval_holds v (interval_of s))
union_more v spans k s h at =
    list_any-map (interval_holds v) interval_of (take (k + 1) spans)
    ∙ list_any_more (λ t. interval_holds v (interval_of t)) spans k s h
    ∙ ap (λ t. list_any (λ u. interval_holds v (interval_of u)) (take k spans) || interval_holds v (interval_of t)) (sym at)
    ∙ ap (λ b. b || interval_holds v (interval_of s)) (sym (list_any-map (interval_holds v) interval_of (take k spans)))

pub in_turn : (a b c : Bool) → ((a || b) || c) ≡ ((a || c) || b)
in_turn true b c = refl
in_turn false true true = refl
in_turn false true false = refl
in_turn false false true = refl
in_turn false false false = refl

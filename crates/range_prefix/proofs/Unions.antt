-- Blocks that the union of some spans misses, has whole, or has in part.
use Rattle.std.proofs.Common.{◌≡◌, ◌⊎◌, ◌∷◌, ◌++◌, ℕ, zero, suc, ◌+◌, ◌-◌, ◌^◌, ◌<◌, ◌≤◌, List, [], Bool, true, false, ap, refl, sym, subst, ◌∙◌, arith, inl, inr, length, get_or, ◌||◌, IfSome, slice_get, pow_pos}
use Rattle.field_boxes.specs.declared.prefix.Prefix.{Prefix}
use Rattle.field_boxes.specs.declared.span.Span.{Span}
use Rattle.field_boxes.specs.Headline.Prefix.{FitsWidth}
use Rattle.field_boxes.specs.Spans.{intervals_of}
use Rattle.field_boxes.specs.Unions.{RiseApart}
use Rattle.field_boxes.proofs.Aligned.{high-fits, low-fits}
use Rattle.range_prefix.specs.declared.share.Halved.{Halved}
use Rattle.range_prefix.specs.Halves.{low_half, high_half}
use Rattle.range_prefix.specs.Share.{SharesOut}
use Rattle.range_prefix.specs.Shortest.{has_block, shortest_in, shortest_below}
use Rattle.range_prefix.specs.Spans.{AreApart, union_of}
use Rattle.range_prefix.proofs.Blocks.{halves_in, has_block-from, has_block-lacks, nothing_in, same_in, whole_in}
use Rattle.range_prefix.proofs.Intervals.{above_all, below_all, inside-from}

-- spans whose intervals rise apart
pub apart-from : (low top : ℕ) (spans : List Span) → RiseApart low top (intervals_of spans) → AreApart low spans
apart-from low top [] h = tt
apart-from low top (s ∷ spans) h = (h.0, apart-from (s.hi + 2) top spans h.3)

-- what rises from a value on has none below it
none_below : (low v : ℕ) (spans : List Span) → AreApart low spans → v < low → union_of spans v ≡ false
none_below low v [] apart h = refl
none_below low v (s ∷ spans) apart h =
    let from = apart.0 in
    let ordered = s.ordered in
    ap (λ t. t || union_of spans v) (below_all s.lo s.hi v (omega arith)) ∙ none_below (s.hi + 2) v spans apart.1 (omega arith)

-- nor the value after its first span
none_after : (low : ℕ) (s : Span) (spans : List Span) → AreApart low (s ∷ spans) → union_of (s ∷ spans) (s.hi + 1) ≡ false
none_after low s spans apart = ap (λ t. t || union_of spans (s.hi + 1)) (above_all s.lo s.hi (s.hi + 1) (omega arith)) ∙ none_below (s.hi + 2) (s.hi + 1) spans apart.1 (omega arith)

-- spans with the values that the others have from a value on
abbrev pub HaveFrom : ℕ → List Span → List Span → Type 0
HaveFrom value left spans = (v : ℕ) → value ≤ v → union_of left v ≡ union_of spans v

pub nothing_left : (width : ℕ) (p : Prefix) (left spans : List Span) → length left < 1 → HaveFrom p.value left spans → shortest_below width (union_of spans) p ≡ []
nothing_left width p [] spans none same = nothing_in width (union_of spans) (width - p.len) p.value (λ k small. sym (same (p.value + k) (omega arith)))
nothing_left width p (s ∷ left) spans none same = absurd (omega (arith, none))

pub missed : (width : ℕ) (p : Prefix) (left spans : List Span) (first : Span) → 1 ≤ length left → first ≡ get_or left 0 first → AreApart 0 left → HaveFrom p.value left spans →
    p.value + (2 ^ (width - p.len) - 1) < first.lo → shortest_below width (union_of spans) p ≡ []
missed width p [] spans first some is apart same h = absurd (omega (arith, some))
missed width p (s ∷ left) spans first some is apart same h =
    let lo = ap (λ x. x.lo) is in
    nothing_in width (union_of spans) (width - p.len) p.value
    (λ k small. sym (same (p.value + k) (omega arith)) ∙ none_below s.lo (p.value + k) (s ∷ left) (omega arith, apart.1) (omega arith))

whole-below : (width : ℕ) (set : ℕ → Bool) (p : Prefix) → p.len ≤ width → has_block set (width - p.len) p.value ≡ true → shortest_below width set p ≡ p ∷ []
whole-below width set p short h =
    let e : width - (width - p.len) ≡ p.len = omega arith in
    whole_in width set (width - p.len) p.value h ∙ ap (λ len. record { value = p.value; len = len } ∷ []) e

pub whole : (width : ℕ) (p : Prefix) (left spans : List Span) (first : Span) → p.len ≤ width → 1 ≤ length left → first ≡ get_or left 0 first → HaveFrom p.value left spans →
    first.lo ≤ p.value → p.value + (2 ^ (width - p.len) - 1) ≤ first.hi → shortest_below width (union_of spans) p ≡ p ∷ []
whole width p [] spans first short some is same from to = absurd (omega (arith, some))
whole width p (s ∷ left) spans first short some is same from to =
    let lo = ap (λ x. x.lo) is in
    let hi = ap (λ x. x.hi) is in
    whole-below width (union_of spans) p short
    (has_block-from (union_of spans) (width - p.len) p.value
    (λ k small. sym (same (p.value + k) (omega arith)) ∙ ap (λ t. t || union_of left (p.value + k)) (inside-from s.lo s.hi (p.value + k) (omega arith) (omega arith))))

-- the first span begins after the block's first value or ends before its last
abbrev IsPart : ℕ → ℕ → Span → Type 0
IsPart n v s = (v < s.lo) ⊎ (s.hi < v + (2 ^ n - 1))

has-part : (n v : ℕ) (s : Span) (left spans : List Span) → AreApart 0 (s ∷ left) → HaveFrom v (s ∷ left) spans → v ≤ s.hi → IsPart n v s → has_block (union_of spans) n v ≡ false
has-part n v s left spans apart same reaches (inl h) =
    has_block-lacks (union_of spans) n v 0 (pow_pos n) (sym (same (v + 0) (omega arith)) ∙ none_below s.lo (v + 0) (s ∷ left) (omega arith, apart.1) (omega arith))
has-part n v s left spans apart same reaches (inr h) =
    let positive = pow_pos n in
    let e : s.hi + 1 ≡ v + (s.hi + 1 - v) = omega arith in
    has_block-lacks (union_of spans) n v (s.hi + 1 - v) (omega arith) (sym (same (v + (s.hi + 1 - v)) (omega arith)) ∙ subst (λ x. union_of (s ∷ left) x ≡ false) e (none_after 0 s left apart))

-- so the block has more than one value
splits : (n v : ℕ) (s : Span) → s.lo ≤ v + (2 ^ n - 1) → v ≤ s.hi → IsPart n v s → 0 < n
splits zero v s h j (inl k) = absurd (omega arith)
splits zero v s h j (inr k) = absurd (omega arith)
splits (suc n) v s h j k = omega arith

halved : (width : ℕ) (set : ℕ → Bool) (p : Prefix) → p.len < width → has_block set (width - p.len) p.value ≡ false →
    shortest_below width set p ≡ shortest_below width set (low_half p) ++ shortest_below width set (high_half width p)
halved width set p longer =
    let n = width - (p.len + 1) in
    let e : suc (width - (p.len + 1)) ≡ width - p.len = omega arith in
    subst (λ m. has_block set m p.value ≡ false → shortest_in width set m p.value ≡ shortest_in width set n p.value ++ shortest_in width set n (p.value + 2 ^ n)) e (halves_in width set n p.value)

same_below : (width : ℕ) (p q : Prefix) (left spans : List Span) → p.value ≤ q.value → HaveFrom p.value left spans → shortest_below width (union_of spans) q ≡ shortest_below width (union_of left) q
same_below width p q left spans from same = same_in width (union_of spans) (union_of left) (width - q.len) q.value (λ k small. sym (same (q.value + k) (omega arith)))

shares : (width : ℕ) (p : Prefix) (h : Halved) (spans : List Span) → h.low ≡ low_half p → h.high ≡ high_half width p → FitsWidth width p → p.len < width →
    AreApart 0 h.spans.now → HaveFrom p.value h.spans.now spans → has_block (union_of spans) (width - p.len) p.value ≡ false → SharesOut width spans p h
shares width p h spans low_is high_is fits longer apart same part =
    let low_len = ap (λ q. q.len) low_is in
    let high_len = ap (λ q. q.len) high_is in
    let left = h.spans.now in
    record {
      apart = apart;
      low_fits = subst (FitsWidth width) (sym low_is) (low-fits width p fits longer);
      high_fits = subst (FitsWidth width) (sym high_is) (high-fits width p fits longer);
      low_longer = omega arith;
      high_longer = omega arith;
      joined =
          halved width (union_of spans) p longer part
          ∙ ap (λ ps. ps ++ shortest_below width (union_of spans) (high_half width p)) (same_below width p (low_half p) left spans (omega arith) same)
          ∙ ap (λ ps. shortest_below width (union_of left) (low_half p) ++ ps) (same_below width p (high_half width p) left spans (omega arith) same)
          ∙ ap (λ q. shortest_below width (union_of left) q ++ shortest_below width (union_of left) (high_half width p)) (sym low_is)
          ∙ ap (λ q. shortest_below width (union_of left) h.low ++ shortest_below width (union_of left) q) (sym high_is);
    }

pub shares-out : (width lo : ℕ) (p : Prefix) (h : Halved) (spans left : List Span) (first : Span) → lo ≡ p.value → left ≡ h.spans.now → h.low ≡ low_half p → h.high ≡ high_half width p → FitsWidth width p →
    1 ≤ length left → first ≡ get_or left 0 first → AreApart 0 left → HaveFrom p.value left spans → IfSome (slice_get left 0) (λ s. lo ≤ s.hi) →
    first.lo ≤ p.value + (2 ^ (width - p.len) - 1) → IsPart (width - p.len) p.value first → SharesOut width spans p h
shares-out width lo p h spans [] first least e low_is high_is fits some is apart same reaches h1 h2 = absurd (omega (arith, some))
shares-out width lo p h spans (s ∷ left) first least e low_is high_is fits some is apart same reaches from part =
    let begins = ap (λ x. x.lo) is in
    let n = width - p.len in
    let here : IsPart n p.value s = subst (IsPart n p.value) is part in
    let more : 0 < n = splits n p.value s (omega arith) (omega arith) here in
    let longer : p.len < width = omega arith in
    shares width p h spans low_is high_is fits longer (subst (AreApart 0) e apart) (subst (λ xs. HaveFrom p.value xs spans) e same) (has-part n p.value s left spans apart same (omega arith) here)

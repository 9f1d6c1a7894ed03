-- A prefix that holds all values of a set: the set's shortest cover is that of the prefix.
use Rattle.std.proofs.Common.{◌≡◌, ◌++◌, ◌∷◌, ℕ, zero, suc, ◌+◌, ◌-◌, ◌*◌, ◌/◌, ◌^◌, ◌<◌, ◌≤◌, List, [], Bool, true, false, ap, append-nil, arith, inl, inr, length, subst, sym, ◌∙◌, Some, slice_get}
use Rattle.std.proofs.Math.Nat.{add-mul, mul-add, one-mul, zero-mul}
use Rattle.std.proofs.lemmas.Bool.{cases_lt, eqb-true, false≢true, false_from_ne_true}
use Rattle.std.proofs.lemmas.Nat.{div-mul-add, div_below, le-div, mod_below, pow_pos, shr-shr, shr_split}
use Rattle.field_boxes.specs.declared.prefix.Prefix.{Prefix}
use Rattle.field_boxes.specs.declared.span.Span.{Span}
use Rattle.field_boxes.specs.Headline.Prefix.{FitsWidth, prefix_holds}
use Rattle.field_boxes.specs.Spans.{intervals_of}
use Rattle.field_boxes.specs.Unions.{RiseApart}
use Rattle.field_boxes.proofs.Powers.{double}
use Rattle.field_boxes.proofs.Unions.{below, within}
use Rattle.range_prefix.specs.Shortest.{shortest_below, shortest_cover, shortest_in}
use Rattle.range_prefix.specs.Spans.{union_of}
use Rattle.range_prefix.proofs.Blocks.{halves_in, has_block-lacks, nothing_in}

-- all values of the set lie in the block of 2 ^ n values that holds x
abbrev pub LiesAt : ℕ → ℕ → (ℕ → Bool) → Type 0
LiesAt n x set = (v : ℕ) → set v ≡ true → v / 2 ^ n ≡ x / 2 ^ n

-- the set has none of the 2 ^ n values from v on
abbrev Lacks : ℕ → ℕ → (ℕ → Bool) → Type 0
Lacks n v set = (k : ℕ) → k < 2 ^ n → set (v + k) ≡ false

lies_at_greater : (n d x : ℕ) (set : ℕ → Bool) → LiesAt n x set → LiesAt (n + d) x set
lies_at_greater n d x set lies = λ v has. sym (shr-shr v n d) ∙ ap (λ q. q / 2 ^ d) (lies v has) ∙ shr-shr x n d

-- another block of that size has none of them
elsewhere : (n x q : ℕ) (set : ℕ → Bool) → LiesAt n x set → (q ≡ x / 2 ^ n → ⊥) → Lacks n (q * 2 ^ n) set
elsewhere n x q set lies other k small = false_from_ne_true (set (q * 2 ^ n + k)) (λ has. other (sym (div-mul-add q (2 ^ n) k small) ∙ lies (q * 2 ^ n + k) has))

in_low : (width n v : ℕ) (set : ℕ → Bool) → Lacks n (v + 2 ^ n) set → shortest_in width set (suc n) v ≡ shortest_in width set n v
in_low width n v set lacks =
    let twice = double n in
    let positive = pow_pos n in
    let here : set (v + 2 ^ n) ≡ false = let e : v + 2 ^ n + 0 ≡ v + 2 ^ n = omega arith in subst (λ x. set x ≡ false) e (lacks 0 positive) in
    halves_in width set n v (has_block-lacks set (suc n) v (2 ^ n) (omega arith) here)
    ∙ ap (λ ps. shortest_in width set n v ++ ps) (nothing_in width set n (v + 2 ^ n) lacks)
    ∙ append-nil (shortest_in width set n v)

in_high : (width n v : ℕ) (set : ℕ → Bool) → Lacks n v set → shortest_in width set (suc n) v ≡ shortest_in width set n (v + 2 ^ n)
in_high width n v set lacks =
    halves_in width set n v (has_block-lacks set (suc n) v 0 (pow_pos (suc n)) (lacks 0 (pow_pos n)))
    ∙ ap (λ ps. ps ++ shortest_in width set n (v + 2 ^ n)) (nothing_in width set n v lacks)

next_multiple : (q m : ℕ) → (q + 1) * m ≡ q * m + m
next_multiple q m = add-mul q 1 m ∙ ap (λ x. q * m + x) (one-mul m)

-- of the two halves of a block the set's values lie in one
halved : (width n x : ℕ) (set : ℕ → Bool) → LiesAt n x set → shortest_in width set (suc n) (x / 2 ^ suc n * 2 ^ suc n) ≡ shortest_in width set n (x / 2 ^ n * 2 ^ n)
halved width n x set lies =
    let q = x / 2 ^ suc n in
    let p = x / 2 ^ n in
    let v = q * 2 ^ suc n in
    let half : p / 2 ^ 1 ≡ q = let e : n + 1 ≡ suc n = omega arith in shr-shr x n 1 ∙ ap (λ m. x / 2 ^ m) e in
    let split = shr_split p 1 in
    let rest = mod_below p (2 ^ 1) (pow_pos 1) in
    let start : v ≡ (q + q) * 2 ^ n = ap (λ m. q * m) (double n) ∙ mul-add q (2 ^ n) (2 ^ n) ∙ sym (add-mul q q (2 ^ n)) in
    elim (cases_lt (q + q) p) [
      | inr low ↦
          let is : q + q ≡ p = omega (arith, half, split, rest, low) in
          let begins : v ≡ p * 2 ^ n = start ∙ ap (λ r. r * 2 ^ n) is in
          let next : (p + 1) * 2 ^ n ≡ v + 2 ^ n = next_multiple p (2 ^ n) ∙ ap (λ r. r + 2 ^ n) (sym begins) in
          in_low width n v set (subst (λ r. Lacks n r set) next (elsewhere n x (p + 1) set lies (λ e. absurd (omega (arith, e)))))
          ∙ ap (shortest_in width set n) begins
      | inl high ↦
          let is : p ≡ q + q + 1 = omega (arith, half, split, rest, high) in
          let next : v + 2 ^ n ≡ p * 2 ^ n = ap (λ r. r + 2 ^ n) start ∙ sym (next_multiple (q + q) (2 ^ n)) ∙ ap (λ r. r * 2 ^ n) (sym is) in
          in_high width n v set (subst (λ r. Lacks n r set) (sym start) (elsewhere n x (q + q) set lies (λ e. absurd (omega (arith, e, is)))))
          ∙ ap (shortest_in width set n) next
    ]

climbs : (width n d x : ℕ) (set : ℕ → Bool) → LiesAt n x set → shortest_in width set (n + d) (x / 2 ^ (n + d) * 2 ^ (n + d)) ≡ shortest_in width set n (x / 2 ^ n * 2 ^ n)
climbs width n zero x set lies = let e : n + zero ≡ n = omega arith in ap (λ m. shortest_in width set m (x / 2 ^ m * 2 ^ m)) e
climbs width n (suc d) x set lies =
    let e : n + suc d ≡ suc (n + d) = omega arith in
    ap (λ m. shortest_in width set m (x / 2 ^ m * 2 ^ m)) e
    ∙ halved width (n + d) x set (lies_at_greater n d x set lies)
    ∙ climbs width n d x set lies

-- what the whole field needs for the set, a prefix needs that holds all its values
pub enclosed : (width : ℕ) (set : ℕ → Bool) (p : Prefix) → FitsWidth width p → LiesAt (width - p.len) p.value set → shortest_below width set p ≡ shortest_cover width set
unfolding shortest_cover
enclosed width set p fits lies =
    let n = width - p.len in
    let short = fits.len in
    let top : n + p.len ≡ width = omega arith in
    let start : p.value / 2 ^ n * 2 ^ n ≡ p.value = omega (arith, shr_split p.value n, fits.low) in
    let small : p.value < 1 * 2 ^ width = omega (arith, one-mul (2 ^ width), fits.small) in
    let none : p.value / 2 ^ width ≡ 0 = omega (arith, div_below p.value (2 ^ width) 1 (pow_pos width) small) in
    let first : p.value / 2 ^ width * 2 ^ width ≡ 0 = ap (λ q. q * 2 ^ width) none ∙ zero-mul (2 ^ width) in
    sym
    (ap (λ m. shortest_in width set m 0) (sym top)
    ∙ ap (shortest_in width set (n + p.len)) (sym first)
    ∙ ap (λ m. shortest_in width set (n + p.len) (p.value / 2 ^ m * 2 ^ m)) (sym top)
    ∙ climbs width n p.len p.value set lies
    ∙ ap (shortest_in width set n) start)

-- spans end where the last of them ends
ends_with_last : (low top : ℕ) (spans : List Span) (last : Span) → slice_get spans (length spans - 1) ≡ Some last → RiseApart low top (intervals_of spans) → RiseApart low last.hi (intervals_of spans) × (last.hi ≤ top)
ends_with_last low top [] last is rise = absurd cc
ends_with_last low top (s ∷ []) last is rise =
    let same : s ≡ last = cc in
    subst (λ l. RiseApart low l.hi (intervals_of (s ∷ [])) × (l.hi ≤ top)) same ((rise.0, rise.1, omega arith, tt), rise.2)
ends_with_last low top (s ∷ t ∷ spans) last is rise =
    let place : length (s ∷ t ∷ spans) - 1 ≡ suc (length (t ∷ spans) - 1) = omega arith in
    let later : slice_get (t ∷ spans) (length (t ∷ spans) - 1) ≡ Some last = subst (λ i. slice_get (s ∷ t ∷ spans) i ≡ Some last) place is in
    let rest = ends_with_last (s.hi + 2) top (t ∷ spans) last later rise.3 in
    let begins = rest.0.0 in
    let ordered = rest.0.1 in
    let ends = rest.0.2 in
    ((rise.0, rise.1, omega arith, rest.0), rest.1)

pub first_inside : (width : ℕ) (spans : List Span) (first : Span) → slice_get spans 0 ≡ Some first → RiseApart 0 (2 ^ width - 1) (intervals_of spans) → first.lo < 2 ^ width
first_inside width [] first is rise = absurd cc
first_inside width (s ∷ spans) first is rise =
    let same : s ≡ first = cc in
    let ordered = rise.1 in
    let inside = rise.2 in
    let positive = pow_pos width in
    subst (λ f. f.lo < 2 ^ width) same (omega arith)

pub last_inside : (width : ℕ) (spans : List Span) (last : Span) → slice_get spans (length spans - 1) ≡ Some last → RiseApart 0 (2 ^ width - 1) (intervals_of spans) → last.hi < 2 ^ width
last_inside width spans last is rise = let inside = (ends_with_last 0 (2 ^ width - 1) spans last is rise).1 in let positive = pow_pos width in omega arith

-- all values of spans lie from the first span's first to the last span's last
between : (top : ℕ) (spans : List Span) (first last : Span) → slice_get spans 0 ≡ Some first → slice_get spans (length spans - 1) ≡ Some last → RiseApart 0 top (intervals_of spans) →
    (v : ℕ) → union_of spans v ≡ true → (first.lo ≤ v) × (v ≤ last.hi)
between top [] first last begins ends rise v has = absurd (false≢true has)
between top (s ∷ spans) first last begins ends rise v has =
    let same : s ≡ first = cc in
    let from : RiseApart s.lo top (intervals_of (s ∷ spans)) = (omega arith, rise.1, rise.2, rise.3) in
    let above : s.lo ≤ v = elim (cases_lt v s.lo) [ inl early ↦ absurd (false≢true (sym (below s.lo top v (intervals_of (s ∷ spans)) from early) ∙ has)) | inr on ↦ on ] in
    (subst (λ f. f.lo ≤ v) same above, within 0 last.hi v (intervals_of (s ∷ spans)) (ends_with_last 0 top (s ∷ spans) last ends rise).0 has)

quotients_rise : (n a b : ℕ) → a ≤ b → a / 2 ^ n ≤ b / 2 ^ n
quotients_rise n a b h = le-div (a / 2 ^ n) b (2 ^ n) (pow_pos n) (omega (arith, h, shr_split a n))

-- so a prefix that holds both holds them all
pub encloses : (width top : ℕ) (spans : List Span) (first last : Span) (p : Prefix) → FitsWidth width p → slice_get spans 0 ≡ Some first → slice_get spans (length spans - 1) ≡ Some last → RiseApart 0 top (intervals_of spans) →
    prefix_holds width p first.lo ≡ true → prefix_holds width p last.hi ≡ true → shortest_below width (union_of spans) p ≡ shortest_cover width (union_of spans)
encloses width top spans first last p fits begins ends rise lo hi =
    let n = width - p.len in
    let low = eqb-true (first.lo / 2 ^ n) (p.value / 2 ^ n) lo in
    let high = eqb-true (last.hi / 2 ^ n) (p.value / 2 ^ n) hi in
    enclosed width (union_of spans) p fits
    (λ v has.
    let ends_of = between top spans first last begins ends rise v has in
    omega (arith, low, high, quotients_rise n first.lo v ends_of.0, quotients_rise n v last.hi ends_of.1))

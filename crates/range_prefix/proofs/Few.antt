-- Of a field of n bits an interval needs at most 2 n - 2 prefixes, and of a field of one bit at most one.
use Rattle.std.proofs.Common.{◌≡◌, ◌∷◌, ◌++◌, ℕ, zero, suc, ◌+◌, ◌-◌, ◌*◌, ◌^◌, ◌<◌, ◌≤◌, List, [], Bool, true, false, ap, arith, inl, inr, length, max, refl, ◌∙◌, ◌&&◌, ◌||◌, if◌then◌else◌, pow_pos, length-append}
use Rattle.std.specs.List.{list_any}
use Rattle.std.proofs.lemmas.Bool.{cases_lt}
use Rattle.std.proofs.Math.Nat.{add-mul, zero-mul}
use Rattle.std.proofs.lemmas.List.Elements.{All-append}
use Rattle.std.proofs.lemmas.List.Folds.{list_any-append}
use Rattle.std.proofs.Math.Pow.{pow_mono}
use Rattle.field_boxes.specs.declared.prefix.Prefix.{Prefix}
use Rattle.field_boxes.specs.declared.span.Span.{Span}
use Rattle.field_boxes.specs.Headline.Prefix.{FitsWidth, prefix_holds}
use Rattle.range_prefix.specs.Cover.{HoldExactly}
use Rattle.range_prefix.specs.Shortest.{has_block, block_prefix, shortest_below, shortest_cover, shortest_in}
use Rattle.range_prefix.specs.Spans.{union_of, values_of}
use Rattle.field_boxes.proofs.Powers.{double}
use Rattle.range_prefix.proofs.Blocks.{nothing_in, whole_in}
use Rattle.range_prefix.proofs.Halving.{is-shortest}
use Rattle.range_prefix.proofs.Intervals.{inside, has-whole, missed-above, missed-below}

-- how many prefixes a block needs
abbrev many : ℕ → ℕ → ℕ → ℕ → ℕ → ℕ
many width lo hi n v = length (shortest_in width (inside lo hi) n v)

one_at_most : (t : Bool) (p : Prefix) → length (if t then p ∷ [] else []) ≤ 1
one_at_most true p = omega arith
one_at_most false p = omega arith

either_many : (t : Bool) (p : Prefix) (low high : List Prefix) (most : ℕ) → 1 ≤ most → length low + length high ≤ most → length (if t then p ∷ [] else low ++ high) ≤ most
either_many true p low high most h k = omega arith
either_many false p low high most h k = omega (arith, length-append low high)

none-above : (width lo hi n v : ℕ) → hi < v → many width lo hi n v ≡ 0
none-above width lo hi n v h = ap length (missed-above width lo hi n v h)

none-below : (width lo hi n v : ℕ) → v + 2 ^ n ≤ lo → many width lo hi n v ≡ 0
none-below width lo hi n v h = let positive = pow_pos n in ap length (missed-below width lo hi n v (omega arith))

one_whole : (width lo hi n v : ℕ) → lo ≤ v → v + 2 ^ n ≤ hi + 1 → many width lo hi n v ≡ 1
one_whole width lo hi n v h k =
    let positive = pow_pos n in ap length (whole_in width (inside lo hi) n v (has-whole lo hi n v h (omega arith)))

halves_many : (width lo hi n v most : ℕ) → 1 ≤ most → many width lo hi n v + many width lo hi n (v + 2 ^ n) ≤ most → many width lo hi (suc n) v ≤ most
halves_many width lo hi n v most h k = either_many (has_block (inside lo hi) (suc n) v) (block_prefix width (suc n) v) (shortest_in width (inside lo hi) n v) (shortest_in width (inside lo hi) n (v + 2 ^ n)) most h k

-- of a block of two values an interval needs one prefix at the most
two_at_most : (s t : Bool) (p q r : Prefix) → length (if s && t then p ∷ [] else (if s then q ∷ [] else []) ++ (if t then r ∷ [] else [])) ≤ 1
two_at_most true true p q r = omega arith
two_at_most true false p q r = omega arith
two_at_most false true p q r = omega arith
two_at_most false false p q r = omega arith

two_values : (width lo hi v : ℕ) → many width lo hi 1 v ≤ 1
two_values width lo hi v =
    two_at_most (inside lo hi v) (inside lo hi (v + 2 ^ zero)) (block_prefix width (suc zero) v) (block_prefix width zero v) (block_prefix width zero (v + 2 ^ zero))

-- an interval from before a block on
from_before : (width lo hi n v : ℕ) → lo ≤ v → many width lo hi (suc n) v ≤ suc n
from_before width lo hi zero v h = two_values width lo hi v
from_before width lo hi (suc n) v h =
    let low = from_before width lo hi n v h in
    let high = from_before width lo hi n (v + 2 ^ suc n) (omega arith) in
    elim (cases_lt hi (v + 2 ^ suc n)) [
      | inr over ↦ let whole = one_whole width lo hi (suc n) v h (omega arith) in halves_many width lo hi (suc n) v (suc (suc n)) (omega arith) (omega arith)
      | inl short ↦ let none = none-above width lo hi (suc n) (v + 2 ^ suc n) short in halves_many width lo hi (suc n) v (suc (suc n)) (omega arith) (omega arith)
    ]

-- an interval up to after a block
to_after : (width lo hi n v : ℕ) → v + 2 ^ suc n ≤ hi + 1 → many width lo hi (suc n) v ≤ suc n
to_after width lo hi zero v h = two_values width lo hi v
to_after width lo hi (suc n) v h =
    let twice = double (suc n) in
    let low = to_after width lo hi n v (omega arith) in
    let high = to_after width lo hi n (v + 2 ^ suc n) (omega arith) in
    elim (cases_lt lo (v + 2 ^ suc n)) [
      | inr late ↦ let none = none-below width lo hi (suc n) v late in halves_many width lo hi (suc n) v (suc (suc n)) (omega arith) (omega arith)
      | inl over ↦
          let whole = one_whole width lo hi (suc n) (v + 2 ^ suc n) (omega arith) (omega arith) in halves_many width lo hi (suc n) v (suc (suc n)) (omega arith) (omega arith)
    ]

crossing : (width lo hi n v : ℕ) → many width lo hi (suc n) v ≤ 2 * suc n → many width lo hi (suc n) (v + 2 ^ suc n) ≤ 2 * suc n → many width lo hi (suc (suc n)) v ≤ 2 * suc n
crossing width lo hi n v low high =
    elim (cases_lt hi (v + 2 ^ suc n)) [
      | inl short ↦ let none = none-above width lo hi (suc n) (v + 2 ^ suc n) short in halves_many width lo hi (suc n) v (2 * suc n) (omega arith) (omega arith)
      | inr over ↦
          elim (cases_lt lo (v + 2 ^ suc n)) [
            | inr late ↦ let none = none-below width lo hi (suc n) v late in halves_many width lo hi (suc n) v (2 * suc n) (omega arith) (omega arith)
            | inl early ↦
                let left = to_after width lo hi n v (omega arith) in
                let right = from_before width lo hi n (v + 2 ^ suc n) (omega arith) in
                halves_many width lo hi (suc n) v (2 * suc n) (omega arith) (omega arith)
          ]
    ]

few_at : (width lo hi n v : ℕ) → many width lo hi (suc n) v ≤ max 1 (2 * n)
few_at width lo hi zero v = two_values width lo hi v
few_at width lo hi (suc n) v =
    let low = few_at width lo hi n v in
    let high = few_at width lo hi n (v + 2 ^ suc n) in
    let bound = crossing width lo hi n v (omega arith) (omega arith) in
    omega arith

-- even of every set a block of values needs prefixes for half of them at the most
half_at_most : (width : ℕ) (set : ℕ → Bool) (n v : ℕ) → length (shortest_in width set (suc n) v) ≤ 2 ^ n
half_at_most width set zero v = two_at_most (set v) (set (v + 2 ^ zero)) (block_prefix width (suc zero) v) (block_prefix width zero v) (block_prefix width zero (v + 2 ^ zero))
half_at_most width set (suc n) v =
    let twice = double n in
    let positive = pow_pos (suc n) in
    let low = half_at_most width set n v in
    let high = half_at_most width set n (v + 2 ^ suc n) in
    either_many (has_block set (suc (suc n)) v) (block_prefix width (suc (suc n)) v) (shortest_in width set (suc n) v) (shortest_in width set (suc n) (v + 2 ^ suc n)) (2 ^ suc n) positive (omega arith)

within : (width : ℕ) (set : ℕ → Bool) (n v : ℕ) → n ≤ 32 → length (shortest_in width set n v) ≤ 2 ^ 31
within width set zero v h = let one = one_at_most (set v) (block_prefix width zero v) in omega arith
within width set (suc n) v h =
    let half = half_at_most width set n v in
    let small : n ≤ 31 = omega arith in
    let room : 2 ^ n ≤ 2 ^ 31 = pow_mono small in
    omega arith

pub within_below : (width : ℕ) (set : ℕ → Bool) (p : Prefix) → width ≤ 32 → length (shortest_below width set p) ≤ 2 ^ 31
within_below width set p h = within width set (width - p.len) p.value (omega arith)

few_bits : (width lo hi n v : ℕ) → many width lo hi n v ≤ max 1 (2 * n - 2)
few_bits width lo hi zero v = let one = one_at_most (inside lo hi v) (block_prefix width zero v) in omega arith
few_bits width lo hi (suc n) v = let bound = few_at width lo hi n v in omega arith

few_field : (width : ℕ) (s : Span) → length (shortest_cover width (values_of s)) ≤ max 1 (2 * width - 2)
unfolding shortest_cover
few_field width s = few_bits width s.lo s.hi width 0

none : (width : ℕ) → length (shortest_cover width (union_of [])) ≤ 0
unfolding shortest_cover
none width = omega (arith, ap length (nothing_in width (union_of []) width 0 (λ k small. refl)))

-- a union needs no more than its spans do each by itself
joined : (width : ℕ) (s : Span) (spans : List Span) → width ≤ 32 →
    HoldExactly width (union_of (s ∷ spans)) (shortest_cover width (values_of s) ++ shortest_cover width (union_of spans))
joined width s spans wide =
    let first = shortest_cover width (values_of s) in
    let rest = shortest_cover width (union_of spans) in
    let one = (is-shortest width (values_of s) wide).cover.exact in
    let others = (is-shortest width (union_of spans) wide).cover.exact in
    record {
      fit = All-append (FitsWidth width) first rest one.fit others.fit;
      exact = λ v small.
          list_any-append (λ p. prefix_holds width p v) first rest
          ∙ ap (λ t. t || list_any (λ p. prefix_holds width p v) rest) (one.exact v small)
          ∙ ap (λ t. values_of s v || t) (others.exact v small);
    }

pub few_union : (width : ℕ) (spans : List Span) → width ≤ 32 → length (shortest_cover width (union_of spans)) ≤ length spans * max 1 (2 * width - 2)
few_union width [] wide = let no = none width in let e = zero-mul (max 1 (2 * width - 2)) in rw e no
few_union width (s ∷ spans) wide =
    let both = (is-shortest width (union_of (s ∷ spans)) wide).least (shortest_cover width (values_of s) ++ shortest_cover width (union_of spans)) (joined width s spans wide) in
    let sum = length-append (shortest_cover width (values_of s)) (shortest_cover width (union_of spans)) in
    omega (arith, few_field width s, few_union width spans wide, both, sum, add-mul (length spans) 1 (max 1 (2 * width - 2)))

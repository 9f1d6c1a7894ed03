-- The labels of pieces, the weights of the values below one, and the trie of the pieces.
use Rattle.std.proofs.Common.{◌≡◌, ◌∷◌, ℕ, zero, suc, List, [], ◌+◌, ◌-◌, ◌*◌, ◌<◌, ◌≤◌, ap, arith, ◌∙◌, length, get_or, inl, inr, ◌++◌, refl, ◌^◌}
use Rattle.std.specs.Prelude.{cond, min, slice_index}
use Rattle.std.proofs.lemmas.Bool.{cases_lt, le-leb, lt-leb}
use Rattle.std.proofs.Math.Nat.{mul-le-mul_right}
use Rattle.prefix_min.specs.declared.piece.Piece.{Piece}
use Rattle.prefix_min.specs.Pieces.{Follow, reach, label_at, weight_from, weight_below, IsNext, AreFit}
use Rattle.std.proofs.lemmas.Nat.{pow_pos}
use Rattle.prefix_min.specs.Field.{no_piece}
use Rattle.prefix_min.specs.Growth.{end_of}
use Rattle.prefix_min.specs.Trie.{GivesAll}
use Rattle.std.proofs.lemmas.List.{get_or_default}

-- all pieces end below a value that the last one reaches
pub reach-below : (places start v : ℕ) (pieces : List Piece) → start ≤ v → ((k : ℕ) (d : Piece) → k < length pieces → (get_or pieces k d).hi < v) → reach start pieces ≤ v
reach-below places start v [] le h = le
reach-below places start v (p ∷ pieces) le h = reach-below places (p.hi + 1) v pieces (omega (arith, h 0 p (omega arith))) (λ k d lt. h (suc k) d (omega (arith, lt)))

pub place-label : (places start k : ℕ) (d : Piece) (pieces : List Piece) → Follow places start pieces → k < length pieces → (get_or pieces k d).label < places
place-label places start k d [] f h = absurd (omega (arith, h))
place-label places start zero d (p ∷ pieces) f h = f.1
place-label places start (suc k) d (p ∷ pieces) f h = place-label places (p.hi + 1) k d pieces f.2 (omega (arith, h))

pub starts : (places start k : ℕ) (d : Piece) (pieces : List Piece) → Follow places start pieces → k < length pieces → start ≤ (get_or pieces k d).hi
starts places start k d [] f h = absurd (omega (arith, h))
starts places start zero d (p ∷ pieces) f h = f.0
starts places start (suc k) d (p ∷ pieces) f h = omega (arith, f.0, starts places (p.hi + 1) k d pieces f.2 (omega (arith, h)))

pub ends-rise : (places start k : ℕ) (d e : Piece) (pieces : List Piece) → Follow places start pieces → suc k < length pieces → (get_or pieces k d).hi < (get_or pieces (suc k) e).hi
ends-rise places start k d e [] f h = absurd (omega (arith, h))
ends-rise places start zero d e (p ∷ pieces) f h = omega (arith, starts places (p.hi + 1) 0 e pieces f.2 (omega (arith, h)))
ends-rise places start (suc k) d e (p ∷ pieces) f h = ends-rise places (p.hi + 1) k d e pieces f.2 (omega (arith, h))

-- the next piece gives the label
pub label-next : (i v : ℕ) (d : Piece) (pieces : List Piece) → ((k : ℕ) (e : Piece) → k < i → (get_or pieces k e).hi < v) → i < length pieces → v ≤ (get_or pieces i d).hi →
    label_at pieces v ≡ (get_or pieces i d).label
label-next i v d [] h lt le = absurd (omega (arith, lt))
label-next zero v d (p ∷ pieces) h lt le = ap (λ t. cond t p.label (label_at pieces v)) (le-leb v p.hi le)
label-next (suc i) v d (p ∷ pieces) h lt le =
    ap (λ t. cond t p.label (label_at pieces v)) (lt-leb v p.hi (h 0 p (omega arith)))
    ∙ label-next i v d pieces (λ k e l. h (suc k) e (omega (arith, l))) (omega (arith, lt)) le

pub below-rises : (weights : List ℕ) (start u v : ℕ) (pieces : List Piece) → u ≤ v → weight_below weights start pieces u ≤ weight_below weights start pieces v
below-rises weights start u v [] le = omega arith
below-rises weights start u v (p ∷ pieces) le =
    let part : (min u (p.hi + 1) - start) * slice_index weights p.label ≤ (min v (p.hi + 1) - start) * slice_index weights p.label = mul-le-mul_right (slice_index weights p.label) (omega arith) in
    omega (arith, part, below-rises weights (p.hi + 1) u v pieces le)

pub below-all : (weights : List ℕ) (start v : ℕ) (pieces : List Piece) → weight_below weights start pieces v ≤ weight_from weights start pieces
below-all weights start v [] = omega arith
below-all weights start v (p ∷ pieces) =
    let part : (min v (p.hi + 1) - start) * slice_index weights p.label ≤ (p.hi + 1 - start) * slice_index weights p.label = mul-le-mul_right (slice_index weights p.label) (omega arith) in
    omega (arith, part, below-all weights (p.hi + 1) v pieces)

one_more : (a w : ℕ) → w + a * w ≡ (a + 1) * w
one_more a w = grind arith

later_weighs : (weights : List ℕ) (places start v : ℕ) (p : Piece) (pieces : List Piece) → p.hi < v →
    slice_index weights (label_at pieces v) + weight_below weights (p.hi + 1) pieces v ≤ weight_below weights (p.hi + 1) pieces (v + 1) →
    slice_index weights (label_at (p ∷ pieces) v) + weight_below weights start (p ∷ pieces) v ≤ weight_below weights start (p ∷ pieces) (v + 1)
later_weighs weights places start v p pieces gt ih =
    let label : label_at (p ∷ pieces) v ≡ label_at pieces v = ap (λ t. cond t p.label (label_at pieces v)) (lt-leb v p.hi gt) in
    let same : min v (p.hi + 1) - start ≡ min (v + 1) (p.hi + 1) - start = omega arith in
    omega (arith, ih, ap (slice_index weights) label, ap (λ n. n * slice_index weights p.label) same)

here_weighs : (weights : List ℕ) (places start v : ℕ) (p : Piece) (pieces : List Piece) → v ≤ p.hi → start ≤ v →
    slice_index weights (label_at (p ∷ pieces) v) + weight_below weights start (p ∷ pieces) v ≤ weight_below weights start (p ∷ pieces) (v + 1)
here_weighs weights places start v p pieces le from =
    let label : label_at (p ∷ pieces) v ≡ p.label = ap (λ t. cond t p.label (label_at pieces v)) (le-leb v p.hi le) in
    let now : min v (p.hi + 1) - start ≡ v - start = omega arith in
    let next : min (v + 1) (p.hi + 1) - start ≡ (v - start) + 1 = omega arith in
    omega (
      arith,
      ap (slice_index weights) label,
      ap (λ n. n * slice_index weights p.label) now,
      ap (λ n. n * slice_index weights p.label) next,
      one_more (v - start) (slice_index weights p.label),
      below-rises weights (p.hi + 1) v (v + 1) pieces (omega arith),
    )

-- a value adds the weight of its label
pub value-weighs : (weights : List ℕ) (places start v : ℕ) (pieces : List Piece) → Follow places start pieces → start ≤ v → v < reach start pieces →
    slice_index weights (label_at pieces v) + weight_below weights start pieces v ≤ weight_below weights start pieces (v + 1)
value-weighs weights places start v [] f le lt = absurd (omega (arith, lt, le))
value-weighs weights places start v (p ∷ pieces) f le lt = elim (cases_lt p.hi v) [
  | inl gt ↦ later_weighs weights places start v p pieces gt (value-weighs weights places (p.hi + 1) v pieces f.2 (omega (arith, gt)) lt)
  | inr h ↦ here_weighs weights places start v p pieces h le
]

pub follow_push : (places start : ℕ) (pieces : List Piece) (p : Piece) → Follow places start pieces → reach start pieces ≤ p.hi → p.label < places → Follow places start (pieces ++ p ∷ [])
follow_push places start [] p f le lt = (le, lt, tt)
follow_push places start (x ∷ pieces) p f le lt = (f.0, f.1, follow_push places (x.hi + 1) pieces p f.2 le lt)

pub reach_push : (start : ℕ) (pieces : List Piece) (p : Piece) → reach start (pieces ++ p ∷ []) ≡ p.hi + 1
reach_push start [] p = refl
reach_push start (x ∷ pieces) p = reach_push (x.hi + 1) pieces p

pub weight_push : (weights : List ℕ) (start : ℕ) (pieces : List Piece) (p : Piece) →
    weight_from weights start (pieces ++ p ∷ []) ≡ weight_from weights start pieces + (p.hi + 1 - reach start pieces) * slice_index weights p.label
weight_push weights start [] p = omega arith
weight_push weights start (x ∷ pieces) p = omega (arith, weight_push weights (x.hi + 1) pieces p)

-- the next piece stays the next one up to its end
pub still-next : {pieces : List Piece} {first v w : ℕ} → first < length pieces → IsNext pieces first v → v ≤ w → w ≤ end_of pieces first → IsNext pieces first w
still-next {pieces = pieces} {first = first} inside next le reached = record {
  before = λ k d less. omega (arith, next.before k d less, le);
  here = λ d more. omega (arith, reached, ap (λ p. p.hi) (get_or_default pieces first d no_piece inside));
}

module _ {weights : List ℕ} {pieces : List Piece} (fit : AreFit weights pieces) where
  -- the next piece is there while the pieces reach further
  pub next-inside : {first low : ℕ} → IsNext pieces first low → low < reach 0 pieces → first < length pieces
  next-inside {first = first} {low = low} next more = elim (cases_lt first (length pieces)) [
    | inl lt ↦ lt
    | inr ge ↦ absurd (omega (arith, more, reach-below (length weights) 0 low pieces (omega arith) (λ k d lt. next.before k d (omega (arith, lt, ge)))))
  ]

  pub part-inside : {first low : ℕ} (bits : ℕ) → IsNext pieces first low → low + 2 ^ bits ≤ reach 0 pieces → first < length pieces
  part-inside bits next within = next-inside next (omega (arith, within, pow_pos bits))

  pub piece-place : (k : ℕ) → k < length pieces → (get_or pieces k no_piece).label < length weights
  piece-place k inside = place-label (length weights) 0 k no_piece pieces fit.follow inside

  pub next-label : {first low : ℕ} (v : ℕ) → IsNext pieces first low → first < length pieces → low ≤ v → v ≤ end_of pieces first →
      label_at pieces v ≡ (get_or pieces first no_piece).label
  next-label {first = first} v next inside from le = label-next first v no_piece pieces (λ k e lt. omega (arith, next.before k e lt, from)) inside le

  -- the weight of the part's first value is at most that of the part
  pub first-weighs : (bits low : ℕ) → low + 2 ^ bits ≤ reach 0 pieces →
      slice_index weights (label_at pieces low) + weight_below weights 0 pieces low ≤ weight_below weights 0 pieces (low + 2 ^ bits)
  first-weighs bits low within =
      let some = pow_pos bits in
      omega (
        arith,
        value-weighs weights (length weights) 0 low pieces fit.follow (omega arith) (omega arith),
        below-rises weights 0 (low + 1) (low + 2 ^ bits) pieces (omega arith),
      )

  -- a part within the next piece
  module _ {first low : ℕ} (bits : ℕ) (next : IsNext pieces first low) (within : low + 2 ^ bits ≤ reach 0 pieces)
      (covered : low + 2 ^ bits ≤ end_of pieces first + 1) where
    pub constant_gives : GivesAll (label_at pieces) bits low (get_or pieces first no_piece).label
    constant_gives v from below = next-label v next (part-inside bits next within) from (omega (arith, below, covered))

    pub first_label : label_at pieces low ≡ (get_or pieces first no_piece).label
    first_label = constant_gives low (omega arith) (omega (arith, pow_pos bits))

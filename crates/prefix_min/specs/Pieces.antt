-- The function that pieces stand for: neighbouring runs of values, each with a label; and the piece that is next.
use Rattle.std.specs.Prelude.{ℕ, ◌+◌, ◌-◌, ◌*◌, ◌<◌, ◌≤◌, List, [], ◌∷◌, cond, nat_le, slice_index, ◌^◌, min, slice_index_or, length}
use Rattle.prefix_min.specs.declared.piece.Piece.{Piece}

-- the pieces rise from start on, and each label is a place among so many
abbrev pub Follow : ℕ → ℕ → List Piece → Type 0
Follow places start [] = Unit {0}
Follow places start (p ∷ pieces) = (start ≤ p.hi) × (p.label < places) × Follow places (p.hi + 1) pieces

-- the first value above all pieces
abbrev pub reach : ℕ → List Piece → ℕ
reach start [] = start
reach start (p ∷ pieces) = reach (p.hi + 1) pieces

-- the label of the first piece that ends at the value or above it
abbrev pub label_at : List Piece → ℕ → ℕ
label_at [] v = 0
label_at (p ∷ pieces) v = cond (nat_le v p.hi) p.label (label_at pieces v)

-- the weights of the labels of all values from start on, added up
abbrev pub weight_from : List ℕ → ℕ → List Piece → ℕ
weight_from weights start [] = 0
weight_from weights start (p ∷ pieces) = (p.hi + 1 - start) * slice_index weights p.label + weight_from weights (p.hi + 1) pieces

-- the weights of the labels of the values from start on and below v, added up
abbrev pub weight_below : List ℕ → ℕ → List Piece → ℕ → ℕ
weight_below weights start [] v = 0
weight_below weights start (p ∷ pieces) v = (min v (p.hi + 1) - start) * slice_index weights p.label + weight_below weights (p.hi + 1) pieces v

-- the first piece that ends at the value or above it stands at the place
pub record IsNext (pieces : List Piece) (place v : ℕ) : Type 0 where
  pub before : (k : ℕ) (d : Piece) → k < place → (slice_index_or pieces k d).hi < v
  pub here : (d : Piece) → place < length pieces → v ≤ (slice_index_or pieces place d).hi

-- the pieces follow each other within 32 bits, and their labels' weights stay below 2^104 together
pub record AreFit (weights : List ℕ) (pieces : List Piece) : Type 0 where
  pub follow : Follow (length weights) 0 pieces
  pub wide : reach 0 pieces ≤ 2 ^ 32
  pub light : weight_from weights 0 pieces ≤ 2 ^ 104

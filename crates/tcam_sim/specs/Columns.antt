-- What the columns of a bank keep.
use Rattle.std.specs.Prelude.{◌≡◌, ◌≢◌, ℕ, ◌<◌, ◌^◌, List, length, slice_index}
use Rattle.tcam_sim.specs.declared.halves.Halves.{Halves}

-- the column has so many numbers
pub record HasLength (halves : Halves) (count : ℕ) : Type 0 where
  pub high : length halves.high.items ≡ count
  pub low : length halves.low.items ≡ count

-- an empty slot has no decision
abbrev pub KeepNone : List ℕ → List ℕ → Type 0
KeepNone vacant decisions = (k : ℕ) → k < length decisions → slice_index vacant k ≢ 0 → slice_index decisions k ≡ 0

-- of a mask of 104 bits the upper half has 40
abbrev pub AreNarrow : List ℕ → Type 0
AreNarrow high = (k : ℕ) → k < length high → slice_index high k < 2 ^ 40

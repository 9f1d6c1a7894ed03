-- Vectors of eight numbers, lane by lane.
use Rattle.std.specs.Prelude.{◌≡◌, ℕ, ◌<◌, List, length, slice_index}

-- these are eight lanes, and each has what the function says
pub record AreLanes (lanes : List ℕ) (f : ℕ → ℕ) : Type 0 where
  pub eight : length lanes ≡ 8
  pub each : (i : ℕ) → i < 8 → slice_index lanes i ≡ f i

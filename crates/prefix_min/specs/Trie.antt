-- What a part of the trie stands for.
use Rattle.std.specs.Prelude.{◌≡◌, ℕ, zero, suc, ◌+◌, ◌^◌, ◌<◌, ◌≤◌, List}
use Rattle.prefix_min.specs.Costs.{Costs, IsConstant, IsSplit}

-- a part of the field: one of one label, or two halves
pub data Node : Type 0 where
  Constant : Costs → Node
  Halves : Costs → Node → Node → Node

abbrev pub costs_of : Node → Costs
costs_of (Constant c) = c
costs_of (Halves c low high) = c

-- f gives the label to all values from low on that differ from it in the lowest n bits only
abbrev pub GivesAll : (ℕ → ℕ) → ℕ → ℕ → ℕ → Type 0
GivesAll f n low label = (v : ℕ) → low ≤ v → v < low + 2 ^ n → f v ≡ label

-- the part of n bits from low on stands for f, and its costs are those of its halves
abbrev pub StandsFor : List ℕ → (ℕ → ℕ) → ℕ → ℕ → Node → Type 0
StandsFor weights f n low (Constant c) = IsConstant weights c × GivesAll f n low c.label
StandsFor weights f zero low (Halves c lower upper) = ⊥
StandsFor weights f (suc n) low (Halves c lower upper) =
    IsSplit weights (costs_of lower) (costs_of upper) c × StandsFor weights f n low lower × StandsFor weights f n (low + 2 ^ n) upper

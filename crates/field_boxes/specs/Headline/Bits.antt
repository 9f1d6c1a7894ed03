-- Numbers as their bits, the highest first.
use Rattle.std.specs.Prelude.{ℕ, zero, suc, ◌/◌, ◌%◌, ◌^◌, Bool, List, [], ◌∷◌, nat_eq}

-- the lowest n bits of a number
abbrev pub bits : ℕ → ℕ → List Bool
bits zero v = []
bits (suc n) v = nat_eq (v / 2 ^ n % 2) 1 ∷ bits n v

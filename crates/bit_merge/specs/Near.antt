-- Words as two numbers, of which the values differ in at most one of the lowest bits.
use Rattle.std.specs.Prelude.{◌≡◌, ◌⊎◌, ℕ, ◌^◌, ◌<◌, bit_and, bit_xor}

-- the masks are equal, and the values are, or differ in one of so many bits, which the mask has
abbrev pub IsNear : ℕ → ℕ → ℕ → ℕ → ℕ → Type 0
IsNear n m a k b = (k ≡ m) × ((b ≡ a) ⊎ ((i : ℕ) × (i < n) × (bit_and m (2 ^ i) ≡ 2 ^ i) × (b ≡ bit_xor a (2 ^ i))))

-- Prefixes of a field: the values that agree in their highest bits.
use Rattle.std.specs.Prelude.{◌≡◌, ℕ, ◌-◌, ◌/◌, ◌%◌, ◌^◌, ◌<◌, ◌≤◌, Bool, nat_eq}
use Rattle.field_boxes.specs.declared.prefix.Prefix.{Prefix}

-- the prefix has at most width bits, its value too, and the bits below it are 0
pub record FitsWidth (width : ℕ) (p : Prefix) : Type 0 where
  pub wide : width ≤ 32
  pub len : p.len ≤ width
  pub small : p.value < 2 ^ width
  pub low : p.value % 2 ^ (width - p.len) ≡ 0

-- whether the value agrees with the prefix in the highest len of width bits
abbrev pub prefix_holds : ℕ → Prefix → ℕ → Bool
prefix_holds width p v = nat_eq (v / 2 ^ (width - p.len)) (p.value / 2 ^ (width - p.len))

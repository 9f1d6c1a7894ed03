-- The sizes of a table.
use Rattle.std.specs.Prelude.{ℕ}

-- the greatest number of entries, and the width of a slot
pub record Sizes : Type 0 where
  pub limit : ℕ
  pub slot : ℕ

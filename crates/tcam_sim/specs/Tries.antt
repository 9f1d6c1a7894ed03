-- Counts of tries.
use Rattle.std.specs.Prelude.{ℕ, zero, suc}
use Rattle.razor_limits.specs.Counts.{counted}

-- the count after so many tries more
abbrev pub counted_times : ℕ → ℕ → ℕ
counted_times zero count = count
counted_times (suc tries) count = counted (counted_times tries count)

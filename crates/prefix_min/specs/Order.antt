-- The order of the rows.
use Rattle.std.specs.Prelude.{◌≡◌, ℕ, ◌+◌, ◌-◌, ◌<◌, ◌≤◌, ◌⊎◌, List, length, slice_index_or}
use Rattle.std.specs.List.{AllPairs, HoldsAt}
use Rattle.prefix_min.specs.declared.row.PrefixRow.{PrefixRow}

-- the row is longer, or as long and of a lesser value
abbrev pub ComesBefore : PrefixRow → PrefixRow → Type 0
ComesBefore r s = (s.prefix.len < r.prefix.len) ⊎ ((r.prefix.len ≡ s.prefix.len) × (r.prefix.value < s.prefix.value))

-- the longest rows come first, equally long ones by rising value, and the whole field comes last
pub record InOrder (rows : List PrefixRow) : Type 0 where
  pub before : AllPairs ComesBefore rows
  pub some : 0 < length rows
  pub last : HoldsAt (λ r. r.prefix.len ≡ 0) rows (length rows - 1)

-- neighbours of one length stand by value
abbrev pub TiesRise : List PrefixRow → Type 0
TiesRise rows = (k : ℕ) (d : PrefixRow) → k + 1 < length rows → 255 - (slice_index_or rows k d).prefix.len ≡ 255 - (slice_index_or rows (k + 1) d).prefix.len →
    (slice_index_or rows k d).prefix.value ≤ (slice_index_or rows (k + 1) d).prefix.value

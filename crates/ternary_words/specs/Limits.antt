-- What a table keeps.
use Rattle.std.specs.Prelude.{ℕ, ◌≤◌, ◌≡◌, ◌⊎◌, List, length, slice_index_or, ◌<◌}
use Rattle.ternary_words.specs.declared.entry.Entry.{Entry}

-- 104, 144 or 288
abbrev pub IsSlotWidth : ℕ → Type 0
IsSlotWidth slot = (slot ≡ 104) ⊎ (slot ≡ 144) ⊎ (slot ≡ 288)

-- each decision is 0 or the number of a name
abbrev pub AreNumbered : ℕ → List Entry → Type 0
AreNumbered count entries = (k : ℕ) (d : Entry) → k < length entries → (slice_index_or entries k d).decision ≤ count

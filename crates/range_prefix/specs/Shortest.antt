-- The shortest cover of a set in rising order, block by block. That it is one is a law in src/laws.rt.
use Rattle.std.specs.Prelude.{ℕ, zero, suc, ◌+◌, ◌-◌, ◌^◌, Bool, ◌&&◌, List, [], ◌∷◌, ◌++◌, if◌then◌else◌}
use Rattle.field_boxes.specs.declared.prefix.Prefix.{Prefix}

-- whether the set has each of the 2 ^ n values from v on
abbrev pub has_block : (ℕ → Bool) → ℕ → ℕ → Bool
has_block set zero v = set v
has_block set (suc n) v = has_block set n v && has_block set n (v + 2 ^ n)

-- the 2 ^ n values from v on, as a prefix
abbrev pub block_prefix : ℕ → ℕ → ℕ → Prefix
block_prefix width n v = record { value = v; len = width - n }

-- the prefixes for the set's values among the 2 ^ n values from v on
abbrev pub shortest_in : ℕ → (ℕ → Bool) → ℕ → ℕ → List Prefix
shortest_in width set zero v = if set v then block_prefix width zero v ∷ [] else []
shortest_in width set (suc n) v =
    if has_block set (suc n) v then block_prefix width (suc n) v ∷ [] else shortest_in width set n v ++ shortest_in width set n (v + 2 ^ n)

-- the prefixes for the set's values among those of a prefix
abbrev pub shortest_below : ℕ → (ℕ → Bool) → Prefix → List Prefix
shortest_below width set p = shortest_in width set (width - p.len) p.value

-- the shortest cover of the set's values of a width
unfoldable pub shortest_cover : ℕ → (ℕ → Bool) → List Prefix
shortest_cover width set = shortest_in width set width 0

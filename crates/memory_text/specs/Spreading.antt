-- A table that is spread evenly over slots.
use Rattle.std.specs.Prelude.{ℕ, suc, ◌+◌, ◌*◌, ◌/◌, List, [], ◌∷◌, length, replicate, Some, None}
use Rattle.ternary_words.specs.Headline.Table.{Entry, Table}
use Rattle.memory_text.specs.Memory.{Memory, Write, after}

-- the slot of an entry, of so many, in so many slots, where all count from 0
abbrev pub even_slot : ℕ → ℕ → ℕ → ℕ
even_slot slots many i = (2 * i + 1) * slots / (2 * many)

-- the writes of entries from one on, of so many
abbrev pub even_writes : ℕ → ℕ → ℕ → List Entry → List Write
even_writes slots many i [] = []
even_writes slots many i (e ∷ entries) = record { slot = even_slot slots many i; entry = Some e } ∷ even_writes slots many (suc i) entries

-- so many slots in which the table stands in order, evenly
abbrev pub spread : ℕ → Table → Memory
spread slots table = record { width = table.slot; slots = after (replicate slots None) (even_writes slots (length table.entries) 0 table.entries) }

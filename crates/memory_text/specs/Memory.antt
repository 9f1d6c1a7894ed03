-- Memories, and plans of writes to their slots.
use Rattle.std.specs.Prelude.{ℕ, List, [], ◌∷◌, Option, length, set}
use Rattle.std.specs.List.{filter_map}
use Rattle.ternary_words.specs.Headline.Table.{Entry, Table}

-- the width of the slots, and what each of them holds
pub record Memory : Type 0 where
  pub width : ℕ
  pub slots : List (Option Entry)

-- what a slot, counted from 0, is made to hold: an entry, or nothing
pub record Write : Type 0 where
  pub slot : ℕ
  pub entry : Option Entry

-- writes, for memories of so many slots of this width
pub record Plan : Type 0 where
  pub slots : ℕ
  pub width : ℕ
  pub writes : List Write

-- the slots after writes
abbrev pub after : List (Option Entry) → List Write → List (Option Entry)
after slots [] = slots
after slots (w ∷ writes) = after (set slots w.slot w.entry) writes

-- the entries by rising slot
abbrev pub entries_in : List (Option Entry) → List Entry
entries_in slots = filter_map (λ slot. slot) slots

-- the table of a memory: its entries by rising slot
abbrev pub table_in : Memory → Table
table_in memory = record { slot = memory.width; composed = length (entries_in memory.slots); entries = entries_in memory.slots }

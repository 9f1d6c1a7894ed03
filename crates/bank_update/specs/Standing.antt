-- Tables in the slots where they stand.
use Rattle.std.specs.Prelude.{ℕ, suc, Bool, List, [], ◌∷◌, map, Option, Some, None, is_some, option_map, slice_index_or}
use Rattle.std.specs.List.{filter_map}
use Rattle.ternary_words.specs.Headline.Table as words
use Rattle.ternary_words.specs.Views.{entry_of}
use Rattle.ternary_words.specs.declared.entry.Entry.{Entry}
use Rattle.tcam_sim.specs.Slots.{Stored, stored}

-- what each slot of a memory holds
abbrev pub Bank : Type 0
Bank = List (Option Stored)

-- the bank whose slots hold these entries
abbrev pub bank_of : List (Option Entry) → Bank
bank_of slots = map (option_map stored) slots

-- a table where it stands: what each slot holds, and the names of its decisions
pub record Standing : Type 0 where
  pub slots : List (Option Entry)
  pub names : List (List ℕ)

-- the entries in the order of their slots
abbrev pub entries_in : List (Option Entry) → List Entry
entries_in slots = filter_map (λ slot. slot) slots

-- the slot of the first entry
abbrev pub first_slot : List (Option Entry) → ℕ
first_slot [] = 0
first_slot (None ∷ slots) = suc (first_slot slots)
first_slot (Some e ∷ slots) = 0

-- the table of the entries in the order of their slots, by names
abbrev pub table_in : List (List ℕ) → List (Option Entry) → List words.Entry
table_in names slots = map (entry_of names) (entries_in slots)

-- what a table answers, by name
abbrev pub answer : Standing → List ℕ → Option (List ℕ)
answer table values = words.answer (table_in table.names table.slots) values

-- whether an entry stands in the slot
abbrev pub is_taken : List (Option Entry) → ℕ → Bool
is_taken slots slot = is_some (slice_index_or slots slot None)

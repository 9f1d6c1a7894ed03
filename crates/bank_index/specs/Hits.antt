-- The slots of entries whose words agree with a key.
use Rattle.std.specs.Prelude.{ℕ, Bool, false, List, Option, find, length, slice_get}
use Rattle.std.specs.List.{range_with_len}
use Rattle.std.specs.Option.{option_map_or}
use Rattle.ternary_words.specs.Headline.Word.{agrees}
use Rattle.ternary_words.specs.Views.{word_of}
use Rattle.ternary_words.specs.declared.entry.Entry.{Entry}

-- whether the word of the entry in the slot agrees with the key
abbrev pub hits : List Entry → List Bool → ℕ → Bool
hits entries key slot = option_map_or (λ e. agrees (word_of e.word) key) (slice_get entries slot) false

-- the first of the slots that does
abbrev pub first_of : List Entry → List Bool → List ℕ → Option ℕ
first_of entries key slots = find (hits entries key) slots

-- the slots of all entries, in order
abbrev pub all_slots : List Entry → List ℕ
all_slots entries = range_with_len 0 (length entries)

-- the decision of the entry in the slot
abbrev pub decision_at : List Entry → ℕ → ℕ
decision_at entries slot = option_map_or (λ e. e.decision) (slice_get entries slot) 0

-- The words, entries and tables of the code as trits and names.
use Rattle.std.specs.Prelude.{ℕ, List, map, position, Option, option_and_then, slice_get}
use Rattle.field_boxes.specs.Headline.Bits.{bits}
use Rattle.field_boxes.specs.Names.{name_at}
use Rattle.ternary_words.specs.declared.word.Word as code_word
use Rattle.ternary_words.specs.declared.entry.Entry as code_entry
use Rattle.ternary_words.specs.declared.table.Table as code_table
use Rattle.ternary_words.specs.Headline.Word.{Trit, agrees, header_bits}
use Rattle.ternary_words.specs.Word.{trits}
use Rattle.ternary_words.specs.Headline.Table.{Entry, Table}

abbrev pub word_of : code_word.Word → List Trit
word_of w = trits (bits 104 w.mask) (bits 104 w.value)

-- an entry, with the names of the decisions
abbrev pub entry_of : List (List ℕ) → code_entry.Entry → Entry
entry_of names e = record { word = word_of e.word; decision = name_at names e.decision }

abbrev pub table_of : code_table.Table → Table
table_of t = record { slot = t.slot.bits; composed = t.composed; entries = map (entry_of t.names) t.entries.items }

-- the place of the first entry whose word matches the header
abbrev pub first_match : List ℕ → List code_entry.Entry → Option ℕ
first_match values entries = position (λ e. agrees (word_of e.word) (header_bits values)) entries

-- what the entry at a place decides, by name: none where there is no place
abbrev pub decided_at : List (List ℕ) → List code_entry.Entry → Option ℕ → Option (List ℕ)
decided_at names entries place = option_and_then (λ k. option_and_then (λ e. name_at names e.decision) (slice_get entries k)) place

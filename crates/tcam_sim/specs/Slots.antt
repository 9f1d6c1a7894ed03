-- The slots of a ternary memory, and what a lookup in them finds.
use Rattle.std.specs.Prelude.{ℕ, ◌-◌, ◌++◌, Bool, false, List, length, map, replicate, Option, Some, None, option_map, position, slice_index_or}
use Rattle.ternary_words.specs.Headline.Word.{Trit, agrees, header_bits}
use Rattle.ternary_words.specs.Views.{word_of}
use Rattle.ternary_words.specs.declared.entry.Entry.{Entry}

-- an entry as a slot holds it: its word, and the number of its decision
pub record Stored : Type 0 where
  pub word : List Trit
  pub decision : ℕ

abbrev pub stored : Entry → Stored
stored e = record { word = word_of e.word; decision = e.decision }

-- whether the slot holds a word that agrees with the bits of a key: an empty one doesn't
abbrev pub slot_agrees : List Bool → Option Stored → Bool
slot_agrees key None = false
slot_agrees key (Some s) = agrees s.word key

-- whether the slot matches the header
abbrev pub slot_matches : List ℕ → Option Stored → Bool
slot_matches values slot = slot_agrees (header_bits values) slot

-- the decision in a slot, 0 in an empty one
abbrev pub decision_in : Option Stored → ℕ
decision_in None = 0
decision_in (Some s) = s.decision

-- the least slot whose word matches the header, if there is one, and the decision in it
abbrev pub look_up : List (Option Stored) → List ℕ → Option (ℕ × ℕ)
look_up slots values = option_map (λ k. (k, decision_in (slice_index_or slots k None))) (position (slot_matches values) slots)

-- so many slots with these entries in the first of them, and the others empty
abbrev pub filled : ℕ → List Entry → List (Option Stored)
filled count entries = map (λ e. Some (stored e)) entries ++ replicate (count - length entries) None

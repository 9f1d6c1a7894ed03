-- What a bank with an index holds.
use Rattle.std.specs.Prelude.{◌≡◌, ℕ, List, Option, IfSome, length}
use Rattle.ternary_words.specs.declared.entry.Entry.{Entry}
use Rattle.tcam_sim.specs.Slots.{Stored, filled}
use Rattle.tcam_sim.specs.Bank.{sets_of, slots_of}
use Rattle.bank_index.specs.declared.indexed_bank.IndexedBank.{IndexedBank}

-- all slots
abbrev pub indexed_slots : IndexedBank → List (Option Stored)
indexed_slots bank = slots_of bank.bank

-- how many calls of `set` were made
abbrev pub indexed_sets : IndexedBank → ℕ
indexed_sets bank = sets_of bank.bank

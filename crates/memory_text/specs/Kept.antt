-- What memories and plans keep.
use Rattle.std.specs.Prelude.{ℕ, ◌≤◌, ◌<◌, List, Option, Some, None, All, IsTrue}
use Rattle.ternary_words.specs.declared.entry.Entry.{Entry}
use Rattle.bank_update.specs.declared.write.Put.{Put}
use Rattle.slot_patch.specs.Naming.{Grow}
use Rattle.table_text.specs.Names.{is_name}

-- each name can be spelled
abbrev pub AreSpelled : List (List ℕ) → Type 0
AreSpelled names = All (λ name. IsTrue (is_name name)) names

-- the later list has the names of the earlier one in front, and where these can be spelled, all can
pub record Extends (before now : List (List ℕ)) : Type 0 where
  pub grow : Grow before now
  pub spelled : AreSpelled before → AreSpelled now

-- the number of the decision in a slot, 0 in an empty one
abbrev pub number_in : Option Entry → ℕ
number_in None = 0
number_in (Some e) = e.decision

-- each decision in the slots is 0 or the number of a name
abbrev pub AreNumbered : ℕ → List (Option Entry) → Type 0
AreNumbered count slots = All (λ slot. number_in slot ≤ count) slots

-- each decision of the writes is 0 or the number of a name
abbrev pub AreNumberedPuts : ℕ → List Put → Type 0
AreNumberedPuts count puts = All (λ p. number_in p.entry ≤ count) puts

-- each write is to one of so many slots
abbrev pub AreWithin : ℕ → List Put → Type 0
AreWithin slots puts = All (λ p. p.slot < slots) puts

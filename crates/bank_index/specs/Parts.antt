-- Slots parted by a bit.
use Rattle.std.specs.Prelude.{◌≡◌, ℕ, ◌<◌, true, false, List, filter}
use Rattle.ternary_words.specs.declared.entry.Entry.{Entry}
use Rattle.bank_index.specs.Bits.{may_hit}
use Rattle.bank_index.specs.declared.parting.Parts.{Parts}

-- on each side stand the slots whose words may match there, in their order
pub record AreParts (entries : List Entry) (slots : List ℕ) (parts : Parts) : Type 0 where
  pub bit : parts.bit < 104
  pub zeros : parts.zeros.items ≡ filter (may_hit entries parts.bit false) slots
  pub ones : parts.ones.items ≡ filter (may_hit entries parts.bit true) slots

-- The exchange of a table's first entries for others.
use Rattle.std.specs.Prelude.{◌≡◌, ◌≤◌, ◌-◌, ℕ, true, false, List, length, drop}
use Rattle.std.specs.List.{list_any}
use Rattle.field_boxes.specs.Headline.Fields.{IsHeader}
use Rattle.field_boxes.specs.Alike.{AreAlike}
use Rattle.ternary_words.specs.declared.word.Word.{Word}
use Rattle.ternary_words.specs.declared.entry.Entry.{Entry}
use Rattle.ternary_words.specs.Entries.{matches, answer}
use Rattle.table_steps.specs.Free.{words_of}

-- what one of the new entries matches they answer as the table does
abbrev pub AnswerAs : List Entry → List Entry → Type 0
AnswerAs new table = (header : List ℕ) → IsHeader header → list_any (matches header) (words_of new) ≡ true → answer new header ≡ answer table header

-- what the words don't match the table answers as it does from the place on
abbrev pub LeaveRest : List Word → List Entry → ℕ → Type 0
LeaveRest words table place =
    (header : List ℕ) → IsHeader header → list_any (matches header) words ≡ false → answer table header ≡ answer (drop place table) header

-- the entries have the same word and decision
pub record AreSame (one other : Entry) : Type 0 where
  pub value : one.word.value ≡ other.word.value
  pub mask : one.word.mask ≡ other.word.mask
  pub decision : one.decision ≡ other.decision

-- so many of the last entries answer alike
pub record IsCommonEnd (table new : List Entry) (count : ℕ) : Type 0 where
  pub in_table : count ≤ length table
  pub in_new : count ≤ length new
  pub alike : AreAlike (answer (drop (length new - count) new)) (answer (drop (length table - count) table))

-- Entries that a word passes, from the first on.
use Rattle.std.specs.Prelude.{◌≡◌, ◌⊎◌, ◌≤◌, ℕ, true, false, List, [], length, take, drop}
use Rattle.std.specs.List.{list_any}
use Rattle.field_boxes.specs.Headline.Fields.{IsHeader}
use Rattle.ternary_words.specs.declared.word.Word.{Word}
use Rattle.ternary_words.specs.declared.entry.Entry.{Entry}
use Rattle.ternary_words.specs.Entries.{matches, answer}
use Rattle.table_steps.specs.declared.passing.Passing.{Passing}
use Rattle.table_steps.specs.declared.passing.Passing.TheVariants.{Stuck, Last, Next}
use Rattle.table_steps.specs.Free.{words_of}

-- each header of the word that the hidden words don't match is answered as decided, or by the entries from the place on, and then
-- the words above don't match it
abbrev pub ArePassed : List Word → List Word → List Entry → Word → ℕ → ℕ → Type 0
ArePassed hidden above entries w decision place =
    (header : List ℕ) → IsHeader header → matches header w ≡ true → list_any (matches header) hidden ≡ false →
    (answer entries header ≡ decision) ⊎ ((list_any (matches header) above ≡ false) × (answer entries header ≡ answer (drop place entries) header))

-- so many of the entries can be passed with nothing above
pub record IsOpening (entries : List Entry) (w : Word) (decision : ℕ) (place : ℕ) : Type 0 where
  pub within : place ≤ length entries
  pub passed : ArePassed [] (words_of (take place entries)) entries w decision place

-- each header of the word that the old words above don't match is decided so by the entry, or is matched neither by it nor by the new ones
abbrev pub IsNext : List Word → List Word → Entry → Word → ℕ → Type 0
IsNext old new e w decision =
    (header : List ℕ) → IsHeader header → matches header w ≡ true → list_any (matches header) old ≡ false →
    ((matches header e.word ≡ true) × (e.decision ≡ decision)) ⊎ ((list_any (matches header) new ≡ false) × (matches header e.word ≡ false))

-- each such header is decided so by the entry
abbrev pub IsLast : List Word → Entry → Word → ℕ → Type 0
IsLast old e w decision =
    (header : List ℕ) → IsHeader header → matches header w ≡ true → list_any (matches header) old ≡ false →
    (matches header e.word ≡ true) × (e.decision ≡ decision)

abbrev pub IsPassed : List Word → List Word → Entry → Word → ℕ → Passing → Type 0
IsPassed old new e w decision Stuck = Unit {0}
IsPassed old new e w decision Last = IsLast old e w decision
IsPassed old new e w decision Next = IsNext old new e w decision

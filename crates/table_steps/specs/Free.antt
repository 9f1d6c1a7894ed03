-- Words that may stand in front of entries.
use Rattle.std.specs.Prelude.{◌≡◌, ℕ, true, false, List, map}
use Rattle.std.specs.List.{list_any}
use Rattle.field_boxes.specs.Headline.Fields.{IsHeader}
use Rattle.ternary_words.specs.declared.word.Word.{Word}
use Rattle.ternary_words.specs.declared.entry.Entry.{Entry}
use Rattle.ternary_words.specs.Entries.{matches, answer}

abbrev pub words_of : List Entry → List Word
words_of entries = map (λ e. e.word) entries

-- every header that the word matches and the hidden words don't is answered by the entries as decided
abbrev pub IsFree : List Word → List Entry → Word → ℕ → Type 0
IsFree hidden entries w decision =
    (header : List ℕ) → IsHeader header → matches header w ≡ true → list_any (matches header) hidden ≡ false → answer entries header ≡ decision

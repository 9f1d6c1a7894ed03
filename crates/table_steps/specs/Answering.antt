-- Entries that answer what a word matches and hidden words don't.
use Rattle.std.specs.Prelude.{◌≡◌, ℕ, true, false, List, []}
use Rattle.std.specs.List.{list_any}
use Rattle.field_boxes.specs.Headline.Fields.{IsHeader}
use Rattle.ternary_words.specs.declared.word.Word.{Word}
use Rattle.ternary_words.specs.declared.entry.Entry.{Entry}
use Rattle.ternary_words.specs.Entries.{matches, answer}
use Rattle.table_steps.specs.declared.parts.Part.{Part}

-- some entries answer each header that the word matches and the hidden words don't as the rest does
abbrev pub AnswerBehind : List Word → List Entry → List Entry → Word → Type 0
AnswerBehind hidden some rest w =
    (header : List ℕ) → IsHeader header → matches header w ≡ true → list_any (matches header) hidden ≡ false → answer some header ≡ answer rest header

-- no header that the word matches and the hidden words don't is matched by the other word
abbrev pub IsApart : List Word → Word → Word → Type 0
IsApart hidden other w =
    (header : List ℕ) → IsHeader header → matches header w ≡ true → list_any (matches header) hidden ≡ false → matches header other ≡ false

-- the part answers each header of its word as the table does
abbrev pub IsPartOf : List Entry → Part → Type 0
IsPartOf table part = AnswerBehind [] part.list.entries.items table part.word

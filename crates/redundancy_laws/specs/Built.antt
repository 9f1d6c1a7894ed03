-- Entries as rows: the interval of each field's part of a word that is a prefix there.
use Rattle.std.specs.Prelude.{◌≡◌, ℕ, ◌+◌, ◌-◌, List, [], ◌∷◌, All, map}
use Rattle.field_boxes.specs.Fields.{greatest_of}
use Rattle.field_boxes.specs.Headline.Classifier.{Interval}
use Rattle.ternary_words.specs.declared.entry.Entry.{Entry}
use Rattle.ternary_words.specs.Word.{field_part}
use Rattle.redundancy_laws.specs.Rows.{Row}

-- the values of the field that the word matches, where it is a prefix there: from its value to the one with all bits that its mask leaves out
abbrev pub span_at : ℕ → Entry → Interval
span_at field e = record { lo = field_part field e.word.value; hi = field_part field e.word.value + (greatest_of field - field_part field e.word.mask) }

-- the first field of a level
abbrev pub field_of : List ℕ → ℕ
field_of [] = 0
field_of (f ∷ level) = f

-- the entry over the fields of the level
abbrev pub row_at : List ℕ → Entry → Row
row_at level e = record { spans = map (λ field. span_at field e) level; decision = e.decision }

-- the entries have one interval in the field
abbrev pub HaveSpan : ℕ → Interval → List Entry → Type 0
HaveSpan field span entries = All (λ e. span_at field e ≡ span) entries

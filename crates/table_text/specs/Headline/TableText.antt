-- The text of a table, in its second version: its first line, and a line for each entry.
use Rattle.std.specs.Prelude.{ℕ, false, List, [], ◌∷◌, ◌++◌, is_some, unwrap_or, map, length, take, drop, codes}
use Rattle.std.specs.List.{flat_map}
use Rattle.std.specs.Fmt.{decimal}
use Rattle.field_boxes.specs.Headline.Fields.{stated, width}
use Rattle.field_boxes.specs.Headline.Names.{text_of}
use Rattle.ternary_words.specs.Headline.Word.{Trit}
use Rattle.ternary_words.specs.Headline.Table.{Entry, Table}
use Rattle.table_text.specs.Headline.Hexadecimal.{hex_digits}

-- the bits that the trits ask for, with 0 for '*', then '/', and which of the trits ask
abbrev pub column_text : List Trit → List ℕ
column_text trits = hex_digits (map (λ t. unwrap_or t false) trits) ++ 47 ∷ hex_digits (map is_some trits)

-- a column for each of these fields, and a space behind each
abbrev pub columns_text : List ℕ → List Trit → List ℕ
columns_text [] trits = []
columns_text (f ∷ fs) trits = column_text (take (width f) trits) ++ 32 ∷ columns_text fs (drop (width f) trits)

-- the five columns, the decision, and the end of the line
abbrev pub entry_line : Entry → List ℕ
entry_line e = columns_text stated e.word ++ text_of e.decision ++ 10 ∷ []

-- the version of the format, the slot width, the composed entries, and how many entries follow
abbrev pub first_line : Table → List ℕ
first_line t = codes "table 2 slot " ++ decimal t.slot ++ codes " composed " ++ decimal t.composed ++ codes " entries " ++ decimal (length t.entries) ++ 10 ∷ []

-- the first line, and a line for each entry
abbrev pub table_text : Table → List ℕ
table_text t = first_line t ++ flat_map entry_line t.entries

-- The entries that were read so far.
use Rattle.std.specs.Prelude.{◌≡◌, ◌++◌, List, [], ◌∷◌, Result, Ok, Err}
use Rattle.ternary_words.specs.Headline.Table.{Entry, Table}
use Rattle.table_text.specs.declared.error.TableReason.{TableReason}
use Rattle.table_text.specs.Heading.{Heading}

-- the entry of a line stands behind the others
abbrev pub IsBehind : List Entry → Result Entry TableReason → List Entry → Type 0
IsBehind before (Ok entry) after = after ≡ before ++ entry ∷ []
IsBehind before (Err reason) after = ⊥

-- a table with these entries
abbrev pub table_view : Heading → List Entry → Table
table_view heading entries = record { slot = heading.slot; composed = heading.composed; entries = entries }

-- The entries that the code has read.
use Rattle.std.specs.Prelude.{List, map}
use Rattle.ternary_words.specs.Headline.Table.{Entry}
use Rattle.ternary_words.specs.Views as words
use Rattle.table_text.specs.declared.entries.Entries.{Entries}

abbrev pub entries_view : Entries → List Entry
entries_view e = map (words.entry_of e.names) e.entries.items

-- The tables of the code under names.
use Rattle.std.specs.Prelude.{ℕ, List, length}
use Rattle.field_boxes.specs.Names.{AreDistinct}
use Rattle.ternary_words.specs.Limits.{AreNumbered}
use Rattle.ternary_words.specs.Headline.Table.{Entry}
use Rattle.ternary_words.specs.Views.{entry_of}
use Rattle.ternary_words.specs.declared.entry.Entry as code_entry

-- this holds of the entries, seen under any names that tell their decisions apart
abbrev pub UnderNames : List code_entry.Entry → ((code_entry.Entry → Entry) → Type 0) → Type 0
UnderNames entries Holds = (names : List (List ℕ)) → AreDistinct names → AreNumbered (length names) entries → Holds (entry_of names)

-- Tables with fewer entries that answer as before.
use Rattle.std.specs.Prelude.{List}
use Rattle.field_boxes.specs.Alike.{AreAlike}
use Rattle.ternary_words.specs.declared.entry.Entry.{Entry}
use Rattle.ternary_words.specs.Entries.{IsPart, answer}

-- the new table is a part of the old one that answers every header alike
pub record IsShortened (old new : List Entry) : Type 0 where
  pub alike : AreAlike (answer new) (answer old)
  pub part : IsPart new old

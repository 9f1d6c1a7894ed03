-- Entries without the redundant ones.
use Rattle.std.specs.Prelude.{List}
use Rattle.field_boxes.specs.Alike.{AreAlike, IsTight}
use Rattle.ternary_words.specs.declared.entry.Entry.{Entry}
use Rattle.ternary_words.specs.Entries.{IsPart, answer}

-- some of the entries in their order, which answer every header as all of them do, and of which none can go
pub record AreTrimmed (entries kept : List Entry) : Type 0 where
  pub part : IsPart kept entries
  pub alike : AreAlike (answer kept) (answer entries)
  pub tight : IsTight answer kept

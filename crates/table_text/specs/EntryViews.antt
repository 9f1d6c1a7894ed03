-- The lines and entries of the code.
use Rattle.std.specs.Prelude.{ℕ, Bool, List}
use Rattle.ternary_words.specs.Headline.Table.{Entry}
use Rattle.ternary_words.specs.Views.{word_of}
use Rattle.table_text.specs.declared.spelling.Spelled.{Spelled}
use Rattle.table_text.specs.Lines.{Line}
use Rattle.table_text.specs.Names.{decided}

abbrev pub line_of : List ℕ → Bool → Line
line_of text ended = record { text = text; ended = ended }

abbrev pub spelled_view : Spelled → Entry
spelled_view s = record { word = word_of s.word; decision = decided s.decision.now }

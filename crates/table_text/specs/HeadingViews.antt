-- The first line of the code.
use Rattle.table_text.specs.declared.heading.Heading as code_heading
use Rattle.table_text.specs.declared.heading.HeadingWords as code_words
use Rattle.table_text.specs.Heading.{Heading, HeadingWords}

abbrev pub words_view : code_words.HeadingWords → HeadingWords
words_view w = record { table = w.table.now; version = w.version.now; slot = w.slot.now; slot_number = w.slot_number.now; composed = w.composed.now; composed_number = w.composed_number.now; entries = w.entries.now; entries_number = w.entries_number.now }

abbrev pub heading_view : code_heading.Heading → Heading
heading_view h = record { version = h.version; slot = h.slot.bits; composed = h.composed; entries = h.entries }

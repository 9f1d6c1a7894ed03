-- What is wrong with a line of a table, in words.
use Rattle.std.specs.Prelude.{ℕ, List, codes, Option, Some, None}
use Rattle.table_text.specs.declared.error.TableReason.{TableReason}
use Rattle.table_text.specs.declared.error.TableReason.TheVariants.{FirstLine, WordLength, Trit, Padding, Decision, Count, FieldForm, OutsideMask}

-- the reason in words, without the counts that may follow
abbrev pub reason_text : TableReason → List ℕ
reason_text FirstLine = codes "first line"
reason_text WordLength = codes "word length"
reason_text Trit = codes "trit"
reason_text Padding = codes "padding"
reason_text Decision = codes "decision"
reason_text (Count stated found) = codes "count of entries differs"
reason_text FieldForm = codes "field form"
reason_text OutsideMask = codes "value outside mask"

-- how many lines are stated and how many were found, where that is the reason
abbrev pub counts_of : TableReason → Option (ℕ × ℕ)
counts_of (Count stated found) = Some (stated, found)
counts_of reason = None

-- What the text of a table spells: the table, or the first bad line.
use Rattle.std.specs.Prelude.{ℕ, ◌+◌, ◌==◌, Bool, not, ◌&&◌, List, [], ◌∷◌, length, take, min, Option, Some, None, Result, Ok, Err, if◌then◌else◌}
use Rattle.std.specs.List.{list_all}
use Rattle.ternary_words.specs.Headline.Word.{Trit}
use Rattle.ternary_words.specs.Headline.Table.{Entry, Table}
use Rattle.table_text.specs.declared.heading.Version.{Version}
use Rattle.table_text.specs.declared.heading.Version.TheVariants.{Trits, Columns}
use Rattle.table_text.specs.declared.error.TableReason.{TableReason}
use Rattle.table_text.specs.declared.error.TableReason.TheVariants.{FirstLine, WordLength, Trit as NoTrit, Padding, Decision, Count, FieldForm, OutsideMask}
use Rattle.table_text.specs.Lines.{Line, lines_of}
use Rattle.text_lines.specs.Headline.Cuts.{parts_at}
use Rattle.text_lines.specs.Headline.Reading.{BadLine}
use Rattle.table_text.specs.Heading.{Heading, heading_of}
use Rattle.table_text.specs.Names.{is_decision, decided}
use Rattle.table_text.specs.Trits.{is_trit, is_padded, word_of_trits}
use Rattle.table_text.specs.Columns.{LineColumns, Fields, columns_of, fields_of, are_within, word_of_fields}

-- a line with a decision at its end: the entry of this word, or the reason
abbrev pub with_decision : Bool → List Trit → Option (List ℕ) → Result Entry TableReason
with_decision ended word None = Err Decision
with_decision ended word (Some text) = if ended && is_decision text then Ok (record { word = word; decision = decided text }) else Err Decision

-- the first version: the reasons are tried in this order
unfoldable pub trits_entry : ℕ → Line → Result Entry TableReason
trits_entry slot line =
    let parts = parts_at 32 line.text in
    if not (length parts.0 == slot) then Err WordLength else (if not (list_all is_trit parts.0) then Err NoTrit else (if not (is_padded parts.0) then Err Padding else with_decision line.ended (word_of_trits parts.0) parts.1))

-- the second version: first the forms of all columns, then their values, then the decision
abbrev pub fields_entry : Bool → Option (List ℕ) → Fields → Result Entry TableReason
fields_entry ended decision fields = if are_within fields then with_decision ended (word_of_fields fields) decision else Err OutsideMask

abbrev pub read_fields : Bool → Option (List ℕ) → Option Fields → Result Entry TableReason
read_fields ended decision None = Err FieldForm
read_fields ended decision (Some fields) = fields_entry ended decision fields

abbrev pub read_columns : Bool → Option LineColumns → Result Entry TableReason
read_columns ended None = Err FieldForm
read_columns ended (Some columns) = read_fields ended columns.decision (fields_of columns)

unfoldable pub columns_entry : Line → Result Entry TableReason
columns_entry line = read_columns line.ended (columns_of line.text)

abbrev pub entry_in : Version → ℕ → Line → Result Entry TableReason
entry_in Trits slot line = trits_entry slot line
entry_in Columns slot line = columns_entry line

-- the entry that a line spells in the version of its table, or the first reason why it is bad
abbrev pub entry_of : Heading → Line → Result Entry TableReason
entry_of heading line = entry_in heading.version heading.slot line

-- a line's entry in front of what the lines after it come to
abbrev pub in_front : ℕ → Result Entry TableReason → Result (List Entry) (BadLine TableReason) → Result (List Entry) (BadLine TableReason)
in_front number (Err reason) rest = Err (record { line = number; reason = reason })
in_front number (Ok entry) (Err bad) = Err bad
in_front number (Ok entry) (Ok entries) = Ok (entry ∷ entries)

-- the entries of lines, of which the first has this number
abbrev pub entries_of : Heading → ℕ → List Line → Result (List Entry) (BadLine TableReason)
entries_of heading number [] = Ok []
entries_of heading number (line ∷ lines) = in_front number (entry_of heading line) (entries_of heading (number + 1) lines)

-- the table of these entries, where as many lines were found as the first line states
abbrev pub counted : Heading → ℕ → Result (List Entry) (BadLine TableReason) → Result Table (BadLine TableReason)
counted heading found (Err bad) = Err bad
counted heading found (Ok entries) =
    if found == heading.entries then Ok (record { slot = heading.slot; composed = heading.composed; entries = entries })
    else Err (record { line = min heading.entries found + 2; reason = Count heading.entries found })

abbrev pub no_heading : Result Table (BadLine TableReason)
no_heading = Err (record { line = 1; reason = FirstLine })

-- the lines after the first, of which as many as it states are read
abbrev pub after_heading : Option Heading → List Line → Result Table (BadLine TableReason)
after_heading None lines = no_heading
after_heading (Some heading) lines = counted heading (length lines) (entries_of heading 2 (take heading.entries lines))

abbrev pub heading_in : Line → Option Heading
heading_in line = if line.ended then heading_of line.text else None

abbrev pub table_in : List Line → Result Table (BadLine TableReason)
table_in [] = no_heading
table_in (line ∷ lines) = after_heading (heading_in line) lines

-- the table that a text spells, or its first bad line
abbrev pub table_in_text : List ℕ → Result Table (BadLine TableReason)
table_in_text text = table_in (lines_of text)

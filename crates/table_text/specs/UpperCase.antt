-- Texts of the second version whose hexadecimal digits are in upper case.
use Rattle.std.specs.Prelude.{Bool, true, false, ◌&&◌, List, [], ◌∷◌, ℕ, Option, Some, None, nat_lt}
use Rattle.std.specs.List.{list_all}
use Rattle.table_text.specs.declared.heading.Version.{Version}
use Rattle.table_text.specs.declared.heading.Version.TheVariants.{Trits, Columns}
use Rattle.table_text.specs.Columns.{LineColumns, columns_of}
use Rattle.table_text.specs.Heading.{Heading}
use Rattle.table_text.specs.Lines.{Line, lines_of}
use Rattle.table_text.specs.Reading.{heading_in}

-- no byte from 'a' on
abbrev pub is_upper : List ℕ → Bool
is_upper text = list_all (λ b. nat_lt b 97) text

abbrev pub are_upper : Option LineColumns → Bool
are_upper None = true
are_upper (Some columns) = is_upper columns.source && is_upper columns.destination && is_upper columns.source_port && is_upper columns.destination_port && is_upper columns.protocol

-- the columns of the line are in upper case
abbrev pub is_upper_line : Line → Bool
is_upper_line line = are_upper (columns_of line.text)

abbrev pub is_columns : Version → Bool
is_columns Trits = false
is_columns Columns = true

abbrev pub is_second : Option Heading → Bool
is_second None = false
is_second (Some heading) = is_columns heading.version

-- the first line names the second version, and the columns of the others are in upper case
abbrev pub is_upper_table : List Line → Bool
is_upper_table [] = false
is_upper_table (line ∷ lines) = is_second (heading_in line) && list_all is_upper_line lines

-- a text of the second version, in upper case
abbrev pub is_upper_text : List ℕ → Bool
is_upper_text text = is_upper_table (lines_of text)

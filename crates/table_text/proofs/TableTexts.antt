-- The text of a table is read as it is written.
use Rattle.std.proofs.Common.{◌≡◌, ◌∷◌, ◌++◌, ℕ, ◌+◌, ◌≤◌, List, true, [], ap, refl, sym, ◌∙◌, arith, append_assoc, length, map, take, Some, All, IsTrue, Ok, Result, slice_index_or, decimal}
use Rattle.std.specs.List.{AllByRecursion, flat_map}
use Rattle.std.proofs.lemmas.List.{length-map, take_all}
use Rattle.std.proofs.lemmas.List.Elements.{recursion_from_All}
use Rattle.field_boxes.specs.Headline.Names.{text_of}
use Rattle.field_boxes.specs.Names.{name_at}
use Rattle.ternary_words.specs.declared.entry.Entry as code_entry
use Rattle.ternary_words.specs.declared.table.Table as code_table
use Rattle.ternary_words.specs.Headline.Table.{Entry}
use Rattle.table_text.specs.Headline.TableText.{entry_line, table_text}
use Rattle.ternary_words.specs.Views.{table_of}
use Rattle.ternary_words.specs.Views as words
use Rattle.table_text.specs.declared.error.TableReason.{TableReason}
use Rattle.table_text.specs.declared.heading.Version.TheVariants.{Columns}
use Rattle.table_text.specs.Heading.{Heading, heading_of}
use Rattle.ternary_words.specs.Limits.{AreNumbered}
use Rattle.table_text.specs.Lines.{Line, lines_of}
use Rattle.table_text.specs.Names.{is_name}
use Rattle.table_text.specs.Reading.{after_heading, entries_of, entry_in, in_front, table_in, table_in_text}
use Rattle.table_text.proofs.Cuts.{lines_of-line, whole_line}
use Rattle.table_text.proofs.EntryTexts.{IsSpelled, columns, columns-line, columns-written, entry-read}
use Rattle.table_text.proofs.HeadingTexts.{first_text, heading-line, heading-read, heading-written}
use Rattle.table_text.proofs.NameTexts.{numbered_spelled}
use Rattle.table_text.proofs.Resumed.{counted_same}

-- the line of an entry, without its end
abbrev pub line_text : List (List ℕ) → code_entry.Entry → List ℕ
line_text names e = columns e.word.value e.word.mask (text_of (name_at names e.decision))

-- the decision's name can be spelled
abbrev Spells : List (List ℕ) → code_entry.Entry → Type 0
Spells names e = IsSpelled (name_at names e.decision)

line-cut : (names : List (List ℕ)) (e : code_entry.Entry) (rest : List ℕ) → Spells names e → lines_of (entry_line (words.entry_of names e) ++ rest) ≡ whole_line (line_text names e) true ∷ lines_of rest
line-cut names e rest spelled =
    let text = text_of (name_at names e.decision) in
    ap (λ t. lines_of (t ++ 10 ∷ [] ++ rest)) (columns-written e.word text)
    ∙ ap lines_of (append_assoc (line_text names e) (10 ∷ []) rest)
    ∙ lines_of-line (line_text names e) rest (columns-line e.word.value e.word.mask text spelled.line)

lines-cut : (names : List (List ℕ)) (es : List code_entry.Entry) → AllByRecursion (Spells names) es → lines_of (flat_map entry_line (map (words.entry_of names) es)) ≡ map (λ e. whole_line (line_text names e) true) es
lines-cut names [] all = refl
lines-cut names (e ∷ es) all =
    line-cut names e (flat_map entry_line (map (words.entry_of names) es)) all.0 ∙ ap (λ ls. whole_line (line_text names e) true ∷ ls) (lines-cut names es all.1)

entries-read : (heading : Heading) (number : ℕ) (names : List (List ℕ)) (es : List code_entry.Entry) → heading.version ≡ Columns → AllByRecursion (Spells names) es →
    entries_of heading number (map (λ e. whole_line (line_text names e) true) es) ≡ Ok (map (words.entry_of names) es)
entries-read heading number names [] is all = refl
entries-read heading number names (e ∷ es) is all =
    let read : Result Entry TableReason = Ok (words.entry_of names e) in
    ap (λ v. in_front number (entry_in v heading.slot (whole_line (line_text names e) true)) (entries_of heading (number + 1) (map (λ e. whole_line (line_text names e) true) es))) is
    ∙ ap (λ r. in_front number r (entries_of heading (number + 1) (map (λ e. whole_line (line_text names e) true) es))) (entry-read e.word (name_at names e.decision) all.0)
    ∙ ap (in_front number read) (entries-read heading (number + 1) names es is all.1)

-- a table is read by its first line and the lines after it
table-cut : (heading : Heading) (line : List ℕ) (lines : List Line) → heading_of line ≡ Some heading → table_in (whole_line line true ∷ lines) ≡ after_heading (Some heading) lines
table-cut heading line lines h = ap (λ o. after_heading o lines) h

all_spelled : (names : List (List ℕ)) → All (λ name. IsTrue (is_name name)) names → (es : List code_entry.Entry) → AreNumbered (length names) es → AllByRecursion (Spells names) es
all_spelled names named es numbered = recursion_from_All (Spells names) es (λ k d lt. numbered_spelled names named (slice_index_or es k d).decision (numbered k d lt))

-- the first line, and a line for each entry
abbrev pub entry_lines : code_table.Table → List Line
entry_lines t = map (λ e. whole_line (line_text t.names e) true) t.entries.items

abbrev pub first_of : code_table.Table → List ℕ
first_of t = first_text (decimal t.slot.bits) (decimal t.composed) (decimal (length (table_of t).entries))

-- what the first line says
abbrev pub heading_of_table : code_table.Table → Heading
heading_of_table t = record { version = Columns; slot = t.slot.bits; composed = t.composed; entries = length (table_of t).entries }

few_entries : (t : code_table.Table) → length (table_of t).entries ≤ 262144
few_entries t = let same = length-map t.entries.items (words.entry_of t.names) in let few = t.few in omega (arith, few, same)

-- a table whose names can be spelled
abbrev pub HasNames : code_table.Table → Type 0
HasNames t = All (λ name. IsTrue (is_name name)) t.names

pub table-lines : (t : code_table.Table) → HasNames t → lines_of (table_text (table_of t)) ≡ whole_line (first_of t) true ∷ entry_lines t
table-lines t named =
    let whole = table_of t in
    let few = few_entries t in
    ap lines_of (heading-written whole (flat_map entry_line whole.entries)) ∙ lines_of-line (first_of t) (flat_map entry_line whole.entries) (heading-line t.slot.bits t.composed (length whole.entries) t.slot.known (omega (arith, t.counted)) (omega (arith, few)))
    ∙ ap (λ ls. whole_line (first_of t) true ∷ ls) (lines-cut t.names t.entries.items (all_spelled t.names named t.entries.items t.numbered))

pub table-heading : (t : code_table.Table) → heading_of (first_of t) ≡ Some (heading_of_table t)
table-heading t = heading-read t.slot.bits t.composed (length (table_of t).entries) t.slot.known t.counted (few_entries t)

-- the text of a table whose names can be spelled spells it
pub table-read : (t : code_table.Table) → HasNames t → table_in_text (table_text (table_of t)) ≡ Ok (table_of t)
table-read t named =
    let whole = table_of t in
    let es = t.entries.items in
    let heading = heading_of_table t in
    let lines = entry_lines t in
    let size : length lines ≡ length whole.entries = length-map es (λ e. whole_line (line_text t.names e) true) ∙ sym (length-map es (words.entry_of t.names)) in
    ap table_in (table-lines t named) ∙ table-cut heading (first_of t) lines (table-heading t)
    ∙ counted_same heading (length lines) (entries_of heading 2 (take (length whole.entries) lines)) whole.entries
    (ap (entries_of heading 2) (take_all (length whole.entries) lines (omega (arith, size))) ∙ entries-read heading 2 t.names es refl (all_spelled t.names named es t.numbered)) size

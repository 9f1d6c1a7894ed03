-- A text of the second version, in upper case, is written as it was read.
use Rattle.std.proofs.Common.{◌≡◌, ◌∷◌, ◌++◌, ℕ, suc, ◌+◌, List, Bool, true, false, cond, [], ap, refl, sym, ◌∙◌, arith, append_assoc, length, take, Some, None, Ok, Err, Option, Result, ◌==◌, min, decimal, take_all}
use Rattle.std.specs.List.{flat_map, list_all}
use Rattle.std.proofs.lemmas.Bool.{and_parts, eqb-true}
use Rattle.ternary_words.specs.Headline.Table.{Entry, Table}
use Rattle.table_text.specs.Headline.TableText.{entry_line, table_text}
use Rattle.table_text.specs.declared.error.TableReason.{TableReason}
use Rattle.table_text.specs.declared.error.TableReason.TheVariants.{Count}
use Rattle.table_text.specs.declared.heading.Version.{Version}
use Rattle.table_text.specs.declared.heading.Version.TheVariants.{Trits, Columns}
use Rattle.table_text.specs.Heading.{Heading, heading_of}
use Rattle.table_text.specs.Lines.{Line, lines_of}
use Rattle.text_lines.specs.Headline.Reading.{BadLine}
use Rattle.table_text.specs.Reading.{after_heading, counted, entries_of, entry_in, entry_of, heading_in, in_front, table_in, table_in_text}
use Rattle.table_text.specs.UpperCase.{is_columns, is_second, is_upper_line, is_upper_table, is_upper_text}
use Rattle.table_text.proofs.CutBack.{line_bytes, lines_back}
use Rattle.table_text.proofs.EntryBack.{cond_ok, entry_back, ended_line}
use Rattle.table_text.proofs.HeadingBack.{heading_back}
use Rattle.table_text.proofs.HeadingTexts.{first_text, heading-written}

second_version : (v : Version) → is_columns v ≡ true → v ≡ Columns
second_version Trits h = absurd cc
second_version Columns h = refl

-- lines that were read, and written as they were
abbrev AreKept : List Line → List Entry → Type 0
AreKept lines entries = (length entries ≡ length lines) × (flat_map entry_line entries ≡ flat_map line_bytes lines)

front_step : (number : ℕ) (line : Line) (lines : List Line) (entries : List Entry) (r : Result Entry TableReason) (rs : Result (List Entry) (BadLine TableReason)) →
    ((e : Entry) → r ≡ Ok e → entry_line e ≡ line_bytes line) → ((es : List Entry) → rs ≡ Ok es → AreKept lines es) → in_front number r rs ≡ Ok entries → AreKept (line ∷ lines) entries
front_step number line lines entries (Ok e) (Ok es) here more h =
    let same : e ∷ es ≡ entries = cc in
    let rest = more es refl in (
      ap length (sym same) ∙ ap suc rest.0,
      ap (flat_map entry_line) (sym same) ∙ ap (λ t. t ++ flat_map entry_line es) (here e refl) ∙ ap (λ t. line_bytes line ++ t) rest.1,
    )
front_step number line lines entries r rs here more h = absurd cc

entries_back : (h : Heading) (number : ℕ) (lines : List Line) (entries : List Entry) → h.version ≡ Columns → list_all is_upper_line lines ≡ true → entries_of h number lines ≡ Ok entries → AreKept lines entries
entries_back h number [] entries second upper is = let same : [] ≡ entries = cc in (ap length (sym same), ap (flat_map entry_line) (sym same))
entries_back h number (line ∷ lines) entries second upper is =
    let both = and_parts (is_upper_line line) (list_all is_upper_line lines) upper in
    front_step number line lines entries (entry_of h line) (entries_of h (number + 1) lines)
    (λ e he. entry_back line e (ap (λ v. entry_in v h.slot line) (sym second) ∙ he) both.0)
    (λ es hes. entries_back h (number + 1) lines es second both.1 hes) is

ended_step : (line : Line) (h : Heading) (t : Bool) → line.ended ≡ t → cond t (heading_of line.text) None ≡ Some h → (line.ended ≡ true) × (heading_of line.text ≡ Some h)
ended_step line h true e is = (e, is)
ended_step line h false e is = absurd cc

-- the first line, and the lines after it
whole_back : (line : Line) (lines : List Line) (h : Heading) (entries : List Entry) → heading_in line ≡ Some h → h.version ≡ Columns → length entries ≡ h.entries → flat_map entry_line entries ≡ flat_map line_bytes lines →
    table_text (record { slot = h.slot; composed = h.composed; entries = entries }) ≡ flat_map line_bytes (line ∷ lines)
whole_back line lines h entries first second size kept =
    let made : Table = record { slot = h.slot; composed = h.composed; entries = entries } in
    let parts = ended_step line h line.ended refl first in
    let text : first_text (decimal h.slot) (decimal h.composed) (decimal (length entries)) ≡ line.text = ap (λ n. first_text (decimal h.slot) (decimal h.composed) (decimal n)) size ∙ sym (heading_back line.text h parts.1 second) in
    heading-written made (flat_map entry_line made.entries)
    ∙ ap (λ t. t ++ 10 ∷ flat_map entry_line entries) text ∙ ap (λ t. line.text ++ 10 ∷ t) kept
    ∙ sym (append_assoc line.text (10 ∷ []) (flat_map line_bytes lines)) ∙ ap (λ t. t ++ flat_map line_bytes lines) (ended_line line.text line.ended parts.0)

read_step : (line : Line) (lines : List Line) (h : Heading) (t : Table) (r : Result (List Entry) (BadLine TableReason)) → heading_in line ≡ Some h → h.version ≡ Columns → ((entries : List Entry) → r ≡ Ok entries → length lines ≡ h.entries → AreKept lines entries) →
    counted h (length lines) r ≡ Ok t → table_text t ≡ flat_map line_bytes (line ∷ lines)
read_step line lines h t (Err bad) first second kept is = absurd cc
read_step line lines h t (Ok entries) first second kept is =
    let made : Table = record { slot = h.slot; composed = h.composed; entries = entries } in
    let passed = cond_ok (length lines == h.entries) (Ok made) (record { line = min h.entries (length lines) + 2; reason = Count h.entries (length lines) }) t is in
    let same : made ≡ t = cc passed.1 in
    let size = eqb-true (length lines) h.entries passed.0 in
    let all = kept entries refl size in
    ap table_text (sym same) ∙ whole_back line lines h entries first second (all.0 ∙ size) all.1

heading_step : (line : Line) (lines : List Line) (t : Table) (o : Option Heading) → heading_in line ≡ o → is_second o ≡ true → list_all is_upper_line lines ≡ true → after_heading o lines ≡ Ok t → table_text t ≡ flat_map line_bytes (line ∷ lines)
heading_step line lines t None first second upper is = absurd cc
heading_step line lines t (Some h) first second upper is =
    let columns = second_version h.version second in
    read_step line lines h t (entries_of h 2 (take h.entries lines)) first columns
    (λ entries read size. entries_back h 2 lines entries columns upper (ap (entries_of h 2) (sym (take_all h.entries lines (omega (arith, size)))) ∙ read)) is

in_lines : (lines : List Line) (t : Table) → is_upper_table lines ≡ true → table_in lines ≡ Ok t → table_text t ≡ flat_map line_bytes lines
in_lines [] t upper is = absurd cc
in_lines (line ∷ lines) t upper is =
    let both = and_parts (is_second (heading_in line)) (list_all is_upper_line lines) upper in
    heading_step line lines t (heading_in line) refl both.0 both.1 is

-- a text of the second version, in upper case
pub table_back : (text : List ℕ) (t : Table) → table_in_text text ≡ Ok t → is_upper_text text ≡ true → table_text t ≡ text
table_back text t is upper = in_lines (lines_of text) t upper is ∙ lines_back text

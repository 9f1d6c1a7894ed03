-- The texts that are written are in upper case.
use Rattle.std.proofs.Common.{◌≡◌, ◌∷◌, ℕ, ◌/◌, ◌^◌, List, true, [], ap, refl, ◌∙◌, map, nat_lt, ◌&&◌}
use Rattle.std.specs.List.{list_all}
use Rattle.std.proofs.lemmas.Bool.{and_from}
use Rattle.field_boxes.specs.Headline.Names.{text_of}
use Rattle.field_boxes.specs.Names.{name_at}
use Rattle.ternary_words.specs.declared.entry.Entry as code_entry
use Rattle.ternary_words.specs.declared.table.Table as code_table
use Rattle.table_text.specs.Headline.TableText.{table_text}
use Rattle.ternary_words.specs.Views.{table_of}
use Rattle.table_text.specs.Columns.{columns_of}
use Rattle.table_text.specs.UpperCase.{are_upper, is_second, is_upper, is_upper_line, is_upper_table, is_upper_text}
use Rattle.table_text.proofs.Cuts.{whole_line}
use Rattle.table_text.proofs.EntryTexts.{column, column-all, columns, columns-read, five_true}
use Rattle.table_text.proofs.HexTexts.{hex_all}
use Rattle.table_text.proofs.TableTexts.{HasNames, entry_lines, line_text, table-heading, table-lines}

column-upper : (k v m : ℕ) → is_upper (column k v m) ≡ true
column-upper k v m = column-all (λ b. nat_lt b 97) k v m (hex_all (λ b. nat_lt b 97) refl k) refl

line-upper : (v m : ℕ) (text : List ℕ) → are_upper (columns_of (columns v m text)) ≡ true
line-upper v m text =
    ap are_upper (columns-read v m text)
    ∙ five_true (is_upper (column 8 (v / 2 ^ 72) (m / 2 ^ 72))) (is_upper (column 8 (v / 2 ^ 40) (m / 2 ^ 40))) (is_upper (column 4 (v / 2 ^ 24) (m / 2 ^ 24))) (is_upper (column 4 (v / 2 ^ 8) (m / 2 ^ 8))) (is_upper (column 2 (v / 2 ^ 0) (m / 2 ^ 0)))
    (column-upper 8 (v / 2 ^ 72) (m / 2 ^ 72)) (column-upper 8 (v / 2 ^ 40) (m / 2 ^ 40)) (column-upper 4 (v / 2 ^ 24) (m / 2 ^ 24)) (column-upper 4 (v / 2 ^ 8) (m / 2 ^ 8)) (column-upper 2 (v / 2 ^ 0) (m / 2 ^ 0))

lines-upper : (names : List (List ℕ)) (es : List code_entry.Entry) → list_all is_upper_line (map (λ e. whole_line (line_text names e) true) es) ≡ true
lines-upper names [] = refl
lines-upper names (e ∷ es) =
    and_from (is_upper_line (whole_line (line_text names e) true)) (list_all is_upper_line (map (λ e. whole_line (line_text names e) true) es)) (line-upper e.word.value e.word.mask (text_of (name_at names e.decision))) (lines-upper names es)

pub table-upper : (t : code_table.Table) → HasNames t → is_upper_text (table_text (table_of t)) ≡ true
table-upper t named =
    ap is_upper_table (table-lines t named)
    ∙ ap (λ o. is_second o && list_all is_upper_line (entry_lines t)) (table-heading t) ∙ lines-upper t.names t.entries.items

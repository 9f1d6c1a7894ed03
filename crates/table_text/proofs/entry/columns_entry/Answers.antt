use Rattle.std.proofs.Common.{◌≡◌, Ok, Err, sym, subst, MatchResult}
use Rattle.ternary_words.specs.Views.{word_of}
use Rattle.table_text.specs.ColumnViews.{columns_view, fields_view}
use Rattle.table_text.specs.EntryViews.{line_of, spelled_view}
use Rattle.table_text.proofs.SpelledLines.{columns-is}
use Rattle.table_text.proofs.entry.columns_entry.Goals as goal

pub returns : goal.returns
returns c =
    let line = line_of c.args.line.now c.args.ended in
    let is = columns-is line (columns_view c.in-Some.columns) (fields_view c.in-Some-read_fields.fields) (word_of c.word_of_fields.result) c.in-Some.ensures c.in-Some-read_fields.ensures.fields (sym c.if-not-are_within.ensures) c.word_of_fields.ensures in
    subst (λ x. MatchResult c.with_decision.result (λ s. x ≡ Ok (spelled_view s)) (λ e. x ≡ Err e)) (sym is) c.with_decision.ensures

use Rattle.std.proofs.Common.{◌≡◌, ℕ, List, Option, Ok, Err, ap, sym, subst, arith, MatchResult, option_map}
use Rattle.ternary_words.specs.Views.{word_of}
use Rattle.table_text.specs.EntryViews.{line_of, spelled_view}
use Rattle.table_text.proofs.SpelledLines.{trits-is}
use Rattle.table_text.proofs.entry.trits_entry.Goals as goal

pub returns : goal.returns
returns c =
    let line = line_of c.args.line.now c.args.ended in
    let word = c.parts_at.result.0.now in
    let text = option_map (λ text. text.now) c.parts_at.result.1 in
    let is = trits-is c.args.slot line word text (word_of c.word_of_trits.result) (ap (λ (p : List ℕ × Option (List ℕ)). p.0) c.parts_at.ensures) (ap (λ (p : List ℕ × Option (List ℕ)). p.1) c.parts_at.ensures) (omega arith) (sym c.if-not-are_trits.ensures) (sym c.if-not-is_padded.ensures) c.word_of_trits.ensures in
    subst (λ x. MatchResult c.with_decision.result (λ s. x ≡ Ok (spelled_view s)) (λ e. x ≡ Err e)) (sym is) c.with_decision.ensures

use Rattle.std.proofs.Common.{◌≡◌, ◌∷◌, ℕ, List, [], refl, sym, subst, true, false, get_or, IsTrue}
use Rattle.std.proofs.Math.Seq.{take-length, drop-length}
use Rattle.filter_reader.specs.Headline.Tokens.{is_mark, goes_on}
use Rattle.text_lines.specs.Columns.{begins_column}
use Rattle.filter_reader.proofs.Words.{EndsAt, ends_at}
use Rattle.filter_reader.proofs.token.token_len.Goals as goal

word_goes_on : (text : List ℕ) → IsTrue (begins_column text) → is_mark (get_or text 0 0) ≡ false → goes_on text ≡ true
word_goes_on [] h e = h
word_goes_on (b ∷ text) h e = rw (h, e) refl

pub returns-in-Some-clause-token : goal.returns-in-Some-clause-token
returns-in-Some-clause-token c =
    subst (EndsAt c.args.text.now) (sym c.in-Some.ensures) (ends_at c.args.text.now (word_goes_on c.args.text.now c.requires (sym c.if-is_mark.ensures)))

pub returns-in-None-clause-token : goal.returns-in-None-clause-token
returns-in-None-clause-token c =
    rw (take-length c.args.text.now, drop-length c.args.text.now)
    (subst (EndsAt c.args.text.now) (sym c.in-None.ensures) (ends_at c.args.text.now (word_goes_on c.args.text.now c.requires (sym c.if-is_mark.ensures))))

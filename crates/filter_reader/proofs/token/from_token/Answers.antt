use Rattle.std.proofs.Common.{◌≡◌, ◌∷◌, ℕ, List, true, refl, sym, subst}
use Rattle.std.proofs.lemmas.List.{take_rest}
use Rattle.text_lines.specs.Headline.Lines.{is_blank}
use Rattle.text_lines.proofs.Columns.{BeginsAt, begins_at}
use Rattle.filter_reader.specs.Headline.Tokens.{tokens}
use Rattle.filter_reader.proofs.token.from_token.Goals as goal

skips : (b : ℕ) (line : List ℕ) → is_blank b ≡ true → tokens (b ∷ line) ≡ tokens line
skips b line e = rw e refl

pub returns-in-Some-clause-token : goal.returns-in-Some-clause-token
returns-in-Some-clause-token c = rw (take_rest c.args.line.now c.in-Some.place) (subst (BeginsAt tokens c.args.line.now) (sym c.in-Some.ensures) (begins_at tokens refl skips c.args.line.now))

pub returns-in-None-clause-token : goal.returns-in-None-clause-token
returns-in-None-clause-token c = subst (BeginsAt tokens c.args.line.now) (sym c.in-None.ensures) (begins_at tokens refl skips c.args.line.now)

use Rattle.std.proofs.Common.{◌≡◌, ◌∷◌, ℕ, List, true, refl, sym, subst}
use Rattle.std.specs.Prelude.{not}
use Rattle.std.proofs.lemmas.List.{take_rest}
use Rattle.text_lines.specs.Columns.{columns}
use Rattle.text_lines.specs.Headline.Lines.{is_blank}
use Rattle.text_lines.proofs.Columns.{BeginsAt, StartsAt, begins_at, starts_at}
use Rattle.text_lines.proofs.column.from_column.Goals as goal

skips : (b : ℕ) (line : List ℕ) → is_blank b ≡ true → columns (b ∷ line) ≡ columns line
skips b line e = rw e refl

pub returns-in-Some-clause-columns : goal.returns-in-Some-clause-columns
returns-in-Some-clause-columns c = rw (take_rest c.args.line.now c.in-Some.place) (subst (BeginsAt columns c.args.line.now) (sym c.in-Some.ensures) (begins_at columns refl skips c.args.line.now))

pub returns-in-Some-clause-from : goal.returns-in-Some-clause-from
returns-in-Some-clause-from c =
    rw (take_rest c.args.line.now c.in-Some.place) (sym (subst (StartsAt (λ b. not (is_blank b)) c.args.line.now) (sym c.in-Some.ensures) (starts_at (λ b. not (is_blank b)) c.args.line.now)))

pub returns-in-None-clause-columns : goal.returns-in-None-clause-columns
returns-in-None-clause-columns c = subst (BeginsAt columns c.args.line.now) (sym c.in-None.ensures) (begins_at columns refl skips c.args.line.now)

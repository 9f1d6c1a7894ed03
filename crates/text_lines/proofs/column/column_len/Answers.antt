use Rattle.std.proofs.Common.{sym, subst}
use Rattle.std.proofs.Math.Seq.{take-length, drop-length}
use Rattle.text_lines.specs.Headline.Lines.{is_blank}
use Rattle.text_lines.proofs.Columns.{EndsAt, StartsAt, ends_at, starts_at}
use Rattle.text_lines.proofs.column.column_len.Goals as goal

pub returns-in-Some-clause-column : goal.returns-in-Some-clause-column
returns-in-Some-clause-column c = subst (EndsAt c.args.text.now) (sym c.in-Some.ensures) (ends_at c.args.text.now c.requires)

pub returns-in-Some-clause-rest : goal.returns-in-Some-clause-rest
returns-in-Some-clause-rest c = sym (subst (StartsAt is_blank c.args.text.now) (sym c.in-Some.ensures) (starts_at is_blank c.args.text.now))

pub returns-in-None-clause-column : goal.returns-in-None-clause-column
returns-in-None-clause-column c =
    rw (take-length c.args.text.now, drop-length c.args.text.now)
    (subst (EndsAt c.args.text.now) (sym c.in-None.ensures) (ends_at c.args.text.now c.requires))

pub returns-in-None-clause-rest : goal.returns-in-None-clause-rest
returns-in-None-clause-rest c = rw (drop-length c.args.text.now) (sym (subst (StartsAt is_blank c.args.text.now) (sym c.in-None.ensures) (starts_at is_blank c.args.text.now)))

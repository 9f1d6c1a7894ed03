use Rattle.table_equiv.proofs.Outcomes.{yes_le, no_le}
use Rattle.table_equiv.proofs.descent.is_late.Goals as goal

pub returns-in-Some-clause-yes : goal.returns-in-Some-clause-yes
returns-in-Some-clause-yes c = rw (c.in-Some.is, ← c.key.ensures.number) (yes_le c.key.result c.args.word.now.value)

pub returns-in-Some-clause-no : goal.returns-in-Some-clause-no
returns-in-Some-clause-no c = rw (c.in-Some.is, ← c.key.ensures.number) (no_le c.key.result c.args.word.now.value)

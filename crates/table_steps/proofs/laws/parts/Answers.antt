use Rattle.table_steps.proofs.Parted.{part-same, part-then, part-length, part-numbered, part-prefixes}
use Rattle.table_steps.proofs.laws.parts.Goals as goal

pub returns-clause-numbered : goal.returns-clause-numbered
returns-clause-numbered c = part-numbered

pub returns-clause-prefixes : goal.returns-clause-prefixes
returns-clause-prefixes c = part-prefixes

pub returns-clause-fewer : goal.returns-clause-fewer
returns-clause-fewer c = part-length

pub returns-clause-whole : goal.returns-clause-whole
returns-clause-whole c = part-same

pub returns-clause-again : goal.returns-clause-again
returns-clause-again c = part-then

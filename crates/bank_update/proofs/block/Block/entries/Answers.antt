use Rattle.std.proofs.Common.{◌∙◌}
use Rattle.bank_update.proofs.Together.{entries-none, entries-some}
use Rattle.bank_update.proofs.block.Block.entries.Goals as goal

pub returns-in-Some-clause-entries : goal.returns-in-Some-clause-entries
returns-in-Some-clause-entries c = c.deref.ensures.value ∙ entries-some c.self.inside.slots c.self.inside.placed c.in-Some.placed c.args.self.now c.in-Some.is c.self.view_is

pub returns-in-None-clause-entries : goal.returns-in-None-clause-entries
returns-in-None-clause-entries c = entries-none c.self.inside.slots c.self.inside.placed c.args.self.now c.in-None.is c.self.view_is

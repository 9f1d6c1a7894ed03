use Rattle.bank_update.proofs.Together.{inside-now, together-now}
use Rattle.bank_update.proofs.block.Block.stands_together.Goals as goal

pub returns-clause-together : goal.returns-clause-together
returns-clause-together c = together-now c.self.inside.slots c.self.inside.placed c.args.self.now c.self.invariant c.self.view_is

pub returns-clause-inside : goal.returns-clause-inside
returns-clause-inside c = inside-now c.self.inside.slots c.self.inside.placed c.args.self.now c.self.invariant c.self.view_is

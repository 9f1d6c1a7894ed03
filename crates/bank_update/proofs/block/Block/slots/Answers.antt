use Rattle.bank_update.proofs.Together.{long-now}
use Rattle.bank_update.proofs.block.Block.slots.Goals as goal

pub returns : goal.returns
returns c = long-now c.self.inside.slots c.self.inside.placed c.args.self.now c.self.invariant c.self.view_is

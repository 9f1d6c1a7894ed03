use Rattle.bank_update.proofs.Together.{settled-now}
use Rattle.bank_update.proofs.block.BlockStandingTable.settle.Goals as goal

pub returns : goal.returns
returns c = settled-now c.self.inside.slots c.self.inside.placed c.args.plan c.args.self.now c.self.invariant c.self.view_is

use Rattle.bank_update.proofs.Together.{room-fits}
use Rattle.bank_update.proofs.block.Block.fits.Goals as goal

pub returns-clause-inside : goal.returns-clause-inside
returns-clause-inside c = room-fits c.args.self.now c.args.plan.now.start c.args.plan.now.table.entries.items c.requires

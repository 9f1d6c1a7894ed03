use Rattle.std.proofs.Common.{◌∙◌, length}
use Rattle.bank_update.proofs.Together.{between-is}
use Rattle.bank_update.proofs.block.BlockStandingTable.puts.Goals as goal

pub returns : goal.returns
returns c = c.has.ensures ∙ between-is (length c.args.self.now.slots) c.args.plan.now.start c.args.slot c.args.plan.now.table.entries.items

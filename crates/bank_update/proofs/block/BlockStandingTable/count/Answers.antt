use Rattle.std.proofs.Common.{length, ap, arith}
use Rattle.bank_update.proofs.WholeSwaps.{count-writes}
use Rattle.bank_update.proofs.block.BlockStandingTable.count.Goals as goal

pub returns : goal.returns
returns c =
    let many = count-writes c.args.self.now c.args.plan.now.start c.args.plan.now.table.entries.items in
    let same = ap length c.entries.ensures.entries in
    omega (arith, many, same, c.len.ensures)

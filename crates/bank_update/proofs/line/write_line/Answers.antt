use Rattle.razor_base.proofs.Writing.{puts-written}
use Rattle.bank_update.proofs.line.write_line.Goals as goal

pub returns-clause-whole : goal.returns-clause-whole
returns-clause-whole g c = puts-written c.requires c.in_ok-put_parts.ensures c.flush.ensures.whole

use Rattle.razor_base.proofs.Writing.{writes-is}
use Rattle.bank_update.proofs.Texts.{no-room-text}
use Rattle.bank_update.proofs.line.write_no_room.Goals as goal

pub returns-clause-whole : goal.returns-clause-whole
returns-clause-whole g c =
    writes-is c.write_line.ensures.whole (no-room-text c.from.result c.from-2.result c.from-3.result c.args.above c.args.below c.args.wanted c.from.ensures c.from-2.ensures c.from-3.ensures)

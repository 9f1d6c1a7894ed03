use Rattle.std.proofs.Common.{ap, sym}
use Rattle.razor_base.proofs.Writing.{writes-is}
use Rattle.bank_update.specs.Lines.{begin_refusal_line}
use Rattle.bank_update.proofs.line.write_begin_refusal.Goals as goal

pub returns-in-NoRoom-clause-whole : goal.returns-in-NoRoom-clause-whole
returns-in-NoRoom-clause-whole g c = writes-is c.write_no_room.ensures.whole (sym (ap begin_refusal_line c.in-NoRoom.is))

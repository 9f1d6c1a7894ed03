use Rattle.std.proofs.Common.{ap, sym}
use Rattle.razor_base.proofs.Writing.{writes-is}
use Rattle.edit_session.specs.SessionLines.{take_out_line}
use Rattle.edit_session.proofs.line.write_taken_out.Goals as goal

pub returns-in-Ok-clause-whole : goal.returns-in-Ok-clause-whole
returns-in-Ok-clause-whole g c = writes-is c.write_number.ensures.whole (sym (ap take_out_line c.in-Ok.is))

pub returns-in-Err-clause-whole : goal.returns-in-Err-clause-whole
returns-in-Err-clause-whole g c = writes-is c.write_number-in-Err.ensures.whole (sym (ap take_out_line c.in-Err.is))

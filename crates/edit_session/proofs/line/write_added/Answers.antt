use Rattle.std.proofs.Common.{ap, sym}
use Rattle.razor_base.proofs.Writing.{writes-is}
use Rattle.edit_session.specs.SessionLines.{add_line}
use Rattle.edit_session.proofs.line.write_added.Goals as goal

pub returns-in-Ok-clause-whole : goal.returns-in-Ok-clause-whole
returns-in-Ok-clause-whole g c = writes-is c.write_number.ensures.whole (sym (ap add_line c.in-Ok.is))

use Rattle.std.proofs.Common.{ap, sym}
use Rattle.razor_base.proofs.Writing.{writes-is}
use Rattle.edit_session.specs.SessionLines.{commit_refusal_line}
use Rattle.edit_session.proofs.line.write_commit_refusal.Goals as goal

pub returns-in-NoRoom-clause-whole : goal.returns-in-NoRoom-clause-whole
returns-in-NoRoom-clause-whole g c = writes-is c.write_begun-in-NoRoom.ensures.whole (sym (ap commit_refusal_line c.in-NoRoom.is))

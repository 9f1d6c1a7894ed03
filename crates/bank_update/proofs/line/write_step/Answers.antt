use Rattle.std.proofs.Common.{ap, sym}
use Rattle.razor_base.proofs.Writing.{writes-is}
use Rattle.bank_update.specs.Lines.{step_line}
use Rattle.bank_update.proofs.line.write_step.Goals as goal

pub returns-in-Ok-clause-whole : goal.returns-in-Ok-clause-whole
returns-in-Ok-clause-whole g c = writes-is c.write_some_stage.ensures.whole (sym (ap step_line c.in-Ok.is))

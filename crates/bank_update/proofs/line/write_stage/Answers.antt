use Rattle.std.proofs.Common.{ap, sym}
use Rattle.razor_base.proofs.Writing.{writes-is}
use Rattle.bank_update.specs.Lines.{stage_or_idle}
use Rattle.bank_update.proofs.line.write_stage.Goals as goal

pub returns-in-Some-clause-whole : goal.returns-in-Some-clause-whole
returns-in-Some-clause-whole g c = writes-is c.write_some_stage.ensures.whole (sym (ap stage_or_idle c.in-Some.is))

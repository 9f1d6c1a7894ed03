use Rattle.razor_base.proofs.Writing.{writes-is}
use Rattle.bank_update.proofs.Texts.{stage-text}
use Rattle.bank_update.proofs.line.write_some_stage.Goals as goal

pub returns-clause-whole : goal.returns-clause-whole
returns-clause-whole g c =
    writes-is c.write_line.ensures.whole (stage-text c.from.result c.from-2.result c.args.stage.done c.args.stage.total c.stage_end.result.now c.args.stage.back c.from.ensures c.from-2.ensures c.stage_end.ensures)

use Rattle.std.proofs.Common.{◌++◌, ap}
use Rattle.std.specs.Fmt.{decimal}
use Rattle.razor_base.proofs.Writing.{writes-is}
use Rattle.bank_update.specs.Lines.{line_end}
use Rattle.edit_session.proofs.line.write_number.Goals as goal

pub returns-clause-whole : goal.returns-clause-whole
returns-clause-whole g c = writes-is c.write_line.ensures.whole (ap (λ n. c.args.text.now ++ (decimal n ++ line_end)) c.from.ensures)

use Rattle.std.proofs.Common.{◌++◌, ◌∙◌, ap}
use Rattle.std.specs.Prelude.{codes}
use Rattle.std.specs.Fmt.{decimal}
use Rattle.razor_base.proofs.Writing.{writes-is}
use Rattle.bank_update.specs.Lines.{line_end}
use Rattle.edit_session.proofs.line.write_no_slots.Goals as goal

pub returns-clause-whole : goal.returns-clause-whole
returns-clause-whole g c =
    writes-is c.write_line.ensures.whole
    (ap (λ n. codes "no room " ++ (decimal n ++ (codes " " ++ (decimal c.from-2.result ++ line_end)))) c.from.ensures
    ∙ ap (λ n. codes "no room " ++ (decimal c.args.needed ++ (codes " " ++ (decimal n ++ line_end)))) c.from-2.ensures)

use Rattle.std.proofs.Common.{◌-◌, ◌<◌, length, ap, sym, refl, arith}
use Rattle.std.proofs.lemmas.Option.{slice_get_read}
use Rattle.razor_base.proofs.Writing.{writes-is}
use Rattle.bank_update.specs.Lines.{begin_line}
use Rattle.bank_update.proofs.Taking.{takes-begin}
use Rattle.bank_update.proofs.drive.begin.Goals as goal

pub returns-clause-turn : goal.returns-clause-turn
returns-clause-turn g c =
    let tables = c.args.tables.now in
    let place = c.args.number - 1 in
    let within : place < length tables = omega (arith, c.requires.within.0, c.requires.within.1) in
    takes-begin c.args.number c.index-tables-number.result c.in_ok-table.table c.begin.result (slice_get_read tables (length tables) place c.index-tables-number.result refl within c.index-tables-number.is) c.in_ok-table.ensures
    c.begin.ensures.ok c.begin.ensures.err c.begin.ensures.state (ap g.V.Device.faults (sym c.begin.ensures.device)) (ap g.V.Device.tries (sym c.begin.ensures.device))
    (writes-is c.write_begun.ensures.whole (ap begin_line c.without_table-answer.ensures))

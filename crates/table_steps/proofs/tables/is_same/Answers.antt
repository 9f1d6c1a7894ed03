use Rattle.std.proofs.lemmas.Bool.{OnTrue_from}
use Rattle.table_steps.specs.Exchange.{AreSame}
use Rattle.table_steps.proofs.Ends.{same-from}
use Rattle.table_steps.proofs.tables.is_same.Goals as goal

pub returns : goal.returns
returns c =
    let one = c.args.one.now in
    let other = c.args.other.now in
    OnTrue_from c.eq.result (AreSame one other) (same-from one other c.eq.result c.eq.ensures)

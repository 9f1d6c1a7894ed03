use Rattle.table_steps.proofs.Kept.{wanted-apart}
use Rattle.table_steps.proofs.need.shown.Goals as goal

pub returns-then-is_wanted : goal.returns-then-is_wanted
returns-then-is_wanted c =
    wanted-apart c.args.table.now c.args.place c.index-table-place.result c.in-Some-found.header.values c.requires c.index-table-place.is c.if-is_wanted.ensures

use Rattle.table_compose.specs.Rows.{rows_at}
use Rattle.table_compose.specs.Composed.{open_all, boxes}
use Rattle.table_compose.proofs.Tables.{from_none}
use Rattle.table_compose.proofs.composition.table.Goals as goal

pub returns : goal.returns
returns c =
    from_none c.args.order.now open_all c.in_ok-entries.entries.items c.add_table.new.entries.items (boxes c.args.store.now (rows_at c.args.plans.now.lists.items) c.args.order.now c.args.root.0)
    c.in_ok-entries.ensures.items c.in_ok-add_table.ensures

use Rattle.std.proofs.Common.{◌∙◌, ap}
use Rattle.node_store.specs.declared.edge.NodeId.{NodeId}
use Rattle.prefix_min.specs.declared.row.PrefixRow.{PrefixRow}
use Rattle.table_compose.specs.Rows.{rows_of}
use Rattle.table_compose.proofs.Planned.{leading_more}
use Rattle.table_compose.proofs.node_plan.leading.Goals as goal

pub loop-row-preserved : goal.loop-row-preserved
loop-row-preserved c =
    let l = c.loop-row in
    let e : NodeId = record { 0 = 0 } in
    let d : PrefixRow = record { prefix = record { value = 0; len = 0 }; label = 0 } in
    ap rows_of c.in_ok-push.ensures.items
    ∙ leading_more c.args.children.now c.args.rows.now l.leading.items l.row-index d e c.loop-row-test.true (c.requires l.row-index d c.loop-row-test.true) l.invariant

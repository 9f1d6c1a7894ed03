use Rattle.std.proofs.Common.{arith}
use Rattle.table_steps.proofs.Ends.{end-start, end-next}
use Rattle.table_steps.proofs.tables.common_end.Goals as goal

pub loop-count-init : goal.loop-count-init
loop-count-init c = end-start c.args.table.now c.args.new.now

pub loop-count-preserved : goal.loop-count-preserved
loop-count-preserved c =
    end-next c.args.table.now c.args.new.now c.loop-count.count c.index-table-table.result c.index-new-new.result
    (omega (arith, c.loop-count-test.true, c.min-least.ensures)) (omega (arith, c.loop-count-test.true, c.min-least.ensures))
    c.index-table-table.is c.index-new-new.is c.if-not-is_same.ensures c.loop-count.invariant

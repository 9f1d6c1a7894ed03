use Rattle.std.proofs.Common.{arith}
use Rattle.std.proofs.lemmas.Bool.{OnTrue_at}
use Rattle.table_steps.specs.Free.{words_of}
use Rattle.table_steps.proofs.Exchanged.{passed_over-next, passed_over-all}
use Rattle.table_steps.proofs.exchange.leave_rest.Goals as goal

pub loop-place-preserved : goal.loop-place-preserved
loop-place-preserved c =
    passed_over-next (words_of c.args.new.now) c.args.table.now c.index-table-place.result c.args.count c.loop-place.place (omega (arith, c.loop-place-test.true, c.requires)) c.index-table-place.is
    (OnTrue_at c.if-not-branch.false c.in_ok-is_replaced.ensures) c.loop-place.invariant

pub returns : goal.returns
returns c =
    passed_over-all (words_of c.args.new.now) c.args.table.now c.args.count c.loop-place.place (omega (arith, c.loop-place-test.false, c.loop-place.auto.place-end)) c.loop-place.invariant

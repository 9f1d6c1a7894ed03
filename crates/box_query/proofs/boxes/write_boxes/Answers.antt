use Rattle.razor_base.proofs.Writing.{puts-is, puts-unwritten, puts-written, writes-stop}
use Rattle.box_query.proofs.Walking.{lines-all, writes-ok}
use Rattle.box_query.proofs.boxes.write_boxes.Goals as goal

pub returns-in_err-boxes-clause-text : goal.returns-in_err-boxes-clause-text
returns-in_err-boxes-clause-text g c =
    puts-unwritten c.from_residual.ensures.0 c.new-pending.ensures (puts-is c.in_err-boxes.ensures.text (lines-all c.args.store.now c.args.id.0 _ _ c.new.ensures c.stated_order.ensures.stated))

pub returns-in_err-flush-clause-text : goal.returns-in_err-flush-clause-text
returns-in_err-flush-clause-text g c =
    writes-stop c.from_residual-in_err-flush.ensures.0
    (puts-written c.new-pending.ensures (puts-is c.in_ok-boxes.ensures.text (lines-all c.args.store.now c.args.id.0 _ _ c.new.ensures c.stated_order.ensures.stated)) c.in_err-flush.ensures.whole)

pub returns-clause-text : goal.returns-clause-text
returns-clause-text g c =
    writes-ok (puts-written c.new-pending.ensures (puts-is c.in_ok-boxes.ensures.text (lines-all c.args.store.now c.args.id.0 _ _ c.new.ensures c.stated_order.ensures.stated)) c.in_ok-flush.ensures.whole)

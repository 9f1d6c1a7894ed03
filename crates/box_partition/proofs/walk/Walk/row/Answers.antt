use Rattle.std.proofs.Common.{◌≡◌, length, rules}
use Rattle.box_partition.proofs.Until.{until-is, until-failed, until-put}
use Rattle.box_partition.proofs.Walking.{leaf-line}
use Rattle.box_partition.proofs.walk.Walk.row.Goals as goal

pub returns-in_err-put_row-clause-rows : goal.returns-in_err-put_row-clause-rows
returns-in_err-put_row-clause-rows g c = λ rows is.
    let five : length c.args.spans ≡ 5 = search rules in
    until-is (until-failed c.from_residual.ensures.1 c.in_err-put_row.ensures)
    (leaf-line c.args.self.now.store.now c.args.left.0 c.args.right.0 rows c.args.spans c.number.result c.number-2.result c.decision.result c.decision-2.result is five
    c.number.ensures c.decision.ensures.decision c.number-2.ensures c.decision-2.ensures.decision)

pub returns-clause-rows : goal.returns-clause-rows
returns-clause-rows g c = λ rows is.
    let five : length c.args.spans ≡ 5 = search rules in
    until-is (until-put c.in_ok-put_row.ensures)
    (leaf-line c.args.self.now.store.now c.args.left.0 c.args.right.0 rows c.args.spans c.number.result c.number-2.result c.decision.result c.decision-2.result is five
    c.number.ensures c.decision.ensures.decision c.number-2.ensures c.decision-2.ensures.decision)

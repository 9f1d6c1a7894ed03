use Rattle.fdd_apply.specs.declared.pair.Pair.{Pair}
use Rattle.fdd_apply.proofs.AppliedNodes.{whole}
use Rattle.fdd_apply.proofs.walk.apply.Goals as goal

pub returns-clause-level : goal.returns-clause-level
returns-clause-level g c =
    let pair : Pair = record { left = c.args.left; right = c.args.right } in
    (whole (g.O.Operation.combined c.args.operation.now) c.args.store.now c.applied.new.store c.args.level.now pair c.in_ok-id.id c.in_ok-id.ensures.grows c.requires.level
    (record { left = c.requires.left; right = c.requires.right }) c.in_ok-id.ensures.applied).0

pub returns-clause-answers : goal.returns-clause-answers
returns-clause-answers g c =
    let pair : Pair = record { left = c.args.left; right = c.args.right } in
    (whole (g.O.Operation.combined c.args.operation.now) c.args.store.now c.applied.new.store c.args.level.now pair c.in_ok-id.id c.in_ok-id.ensures.grows c.requires.level
    (record { left = c.requires.left; right = c.requires.right }) c.in_ok-id.ensures.applied).1

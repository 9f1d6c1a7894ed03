use Rattle.std.proofs.Common.{◌∙◌}
use Rattle.field_order.proofs.Roots as roots
use Rattle.field_order.proofs.Trials.{chosen}
use Rattle.field_order.proofs.best.better.Goals as goal

pub worth-requires-clause-fields : goal.worth-requires-clause-fields
worth-requires-clause-fields c =
    roots.fields c.args.store.now c.args.root.0 c.args.place c.in-Some.order c.as_level-fields.result.now (c.as_level-fields.ensures.fields ∙ c.usual-level.ensures.fields) c.requires.root c.in-Some.ensures.place.0 c.in-Some.ensures.place.1

pub returns-clause-best : goal.returns-clause-best
returns-clause-best c = λ rules d b.
    let n = c.worth.new.store in
    let made = c.in_ok-found.ensures in
    let level = c.as_level-fields.ensures.fields ∙ c.usual-level.ensures.fields in
    let later = roots.later c.args.store.now n c.args.root.0 rules made.grows c.requires.root d in
    let at = roots.level_later c.args.store.now n c.args.root.0 made.grows c.requires.root in
    chosen rules c.args.place c.args.best c.chosen.result c.order_at.result c.in-Some.order c.in_ok-found.found b c.in-Some.is c.order_at.ensures.found c.in-Some.ensures.place.0 c.in-Some.ensures.place.1
    (roots.holds n c.args.root.0 c.args.place c.in-Some.order c.as_level-fields.result.now level at c.in-Some.ensures.place.0 c.in-Some.ensures.place.1 rules later c.in_ok-found.found made.worth)
    made.settles c.chosen.ensures

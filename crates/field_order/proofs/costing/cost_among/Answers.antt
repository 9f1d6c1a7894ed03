use Rattle.std.proofs.Common.{subst, sym}
use Rattle.field_boxes.specs.NamedRules.{named_rules}
use Rattle.node_store.specs.Levels.{IsLevel}
use Rattle.table_compose.specs.Diagrams.{IsCostOf}
use Rattle.table_compose.specs.Headline.LeastCost.{IsLeastCost}
use Rattle.table_compose.proofs.KeptCosts.{kept_while_growing}
use Rattle.field_order.proofs.RuleCosts.{cost_of_rules}
use Rattle.field_order.proofs.costing.cost_among.Goals as goal

pub returns-in_err-root-clause-costs : goal.returns-in_err-root-clause-costs
returns-in_err-root-clause-costs c =
    kept_while_growing c.args.store.now c.build.new.store c.args.costs.now.known.items c.args.costs.now.numbers.items c.build.ensures.grows c.requires

pub of-requires-clause-root : goal.of-requires-clause-root
of-requires-clause-root c =
    c.levels.ensures.in_use c.build.new.store c.in_ok-root.root.0 (subst IsLevel (sym c.in_ok-root.ensures.level) c.as_level.ensures.level)

pub of-requires-clause-costs : goal.of-requires-clause-costs
of-requires-clause-costs c =
    kept_while_growing c.args.store.now c.build.new.store c.args.costs.now.known.items c.args.costs.now.numbers.items c.build.ensures.grows c.requires

pub returns-clause-cost : goal.returns-clause-cost
returns-clause-cost c = λ names are.
    let nodes = c.build.new.store in
    let root = c.in_ok-root.root.0 in
    let n = c.in_ok-cost.cost in
    let rules = c.args.rules.now in
    let fields = c.as_level.result.now in
    subst (λ order. IsLeastCost order (named_rules names rules) n) c.as_level.ensures.fields
    (cost_of_rules nodes fields root n rules names are c.in_ok-root.ensures.answers (subst (λ level. IsCostOf nodes level root n) c.in_ok-root.ensures.level c.in_ok-cost.ensures.cost))

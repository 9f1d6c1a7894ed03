use Rattle.std.proofs.Common.{arith, refl, subst}
use Rattle.table_compose.specs.Diagrams.{IsCostOf}
use Rattle.table_compose.proofs.KeptPlans.{costs_begun}
use Rattle.table_compose.proofs.diagram_plans.Plans.learn_costly.Goals as goal

pub of-requires-clause-costs : goal.of-requires-clause-costs
of-requires-clause-costs c =
    costs_begun c.args.store.now c.args.self.now c.in_ok-costs.costs.known.items c.as_slice.result.now c.in_ok-costs.costs.numbers.items c.as_slice-2.result.now c.requires.plans
    c.in_ok-costs.ensures.known c.as_slice.ensures.value c.in_ok-costs.ensures.numbers c.as_slice-2.ensures.value

pub returns-then-needed-from-clause-refusal : goal.returns-then-needed-from-clause-refusal
returns-then-needed-from-clause-refusal c =
    (subst (λ level. IsCostOf c.args.store.now level c.args.root.0 c.in_ok-needed.needed) c.requires.root c.in_ok-needed.ensures.cost, refl, omega (arith, c.if-needed-from.true, c.from.ensures))

pub returns-clause-known : goal.returns-clause-known
returns-clause-known c = c.in_ok-_whole.ensures.known (c.in_ok-_whole.ensures.whole refl)

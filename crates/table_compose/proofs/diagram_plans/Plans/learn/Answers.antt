use Rattle.std.proofs.Common.{arith, sym, refl, subst}
use Rattle.std.specs.Prelude.{slice_index}
use Rattle.table_compose.specs.Diagrams.{IsCostOf}
use Rattle.table_compose.proofs.Boxes.{have_by}
use Rattle.table_compose.proofs.Later.{root_cost}
use Rattle.table_compose.proofs.diagram_plans.Plans.learn.Goals as goal

pub cost-needed-requires : goal.cost-needed-requires
cost-needed-requires c = (c.learn_within.ensures.plans.kept c.args.root.0 c.in_ok-learn_within.ensures.known).room

pub returns-then-needed-from-clause-refusal : goal.returns-then-needed-from-clause-refusal
returns-then-needed-from-clause-refusal c =
    let nodes = c.args.store.now in
    let root = c.args.root.0 in
    let costs = c.learn_within.new.self.costs.items in
    let needed : IsCostOf nodes c.args.order.now root c.cost-needed.result = subst (λ n. IsCostOf nodes c.args.order.now root n) (sym c.cost-needed.ensures)
    (root_cost nodes c.args.order.now root (slice_index costs root) c.requires.root (c.learn_within.ensures.plans.kept root c.in_ok-learn_within.ensures.known).planned.costed) in
    (needed, refl, omega (arith, c.if-needed-from.true, c.from.ensures))

pub returns-clause-lists : goal.returns-clause-lists
returns-clause-lists c =
    (have_by c.args.store.now c.learn_within.new.self c.same_answers.ensures.store c.learn_within.ensures.plans c.args.order.now c.args.root.0 c.requires.order c.requires.root c.in_ok-learn_within.ensures.known).0

pub returns-clause-costs : goal.returns-clause-costs
returns-clause-costs c =
    (have_by c.args.store.now c.learn_within.new.self c.same_answers.ensures.store c.learn_within.ensures.plans c.args.order.now c.args.root.0 c.requires.order c.requires.root c.in_ok-learn_within.ensures.known).1

pub returns-clause-room : goal.returns-clause-room
returns-clause-room c = (c.learn_within.ensures.plans.kept c.args.root.0 c.in_ok-learn_within.ensures.known).room

pub returns-clause-least : goal.returns-clause-least
returns-clause-least c =
    let root = c.args.root.0 in
    root_cost c.args.store.now c.args.order.now root (slice_index c.learn_within.new.self.costs.items root) c.requires.root (c.learn_within.ensures.plans.kept root c.in_ok-learn_within.ensures.known).planned.costed

pub returns-clause-within : goal.returns-clause-within
returns-clause-within c = omega (arith, c.cost-needed.ensures, c.if-needed-from.false, c.from.ensures)

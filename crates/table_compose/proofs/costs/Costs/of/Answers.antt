use Rattle.std.proofs.Common.{◌+◌, arith, sym, subst}
use Rattle.node_store.specs.Diagram.{level_of}
use Rattle.table_compose.specs.Diagrams.{IsCostOf}
use Rattle.table_compose.proofs.KeptCosts.{less_room}
use Rattle.table_compose.proofs.costs.Costs.of.Goals as goal

pub returns-in_err-make_room-clause-costs : goal.returns-in_err-make_room-clause-costs
returns-in_err-make_room-clause-costs c = c.make_room.ensures.costs c.args.store.now c.requires.costs

pub learn-requires-clause-room : goal.learn-requires-clause-room
learn-requires-clause-room c =
    let number = c.requires.root in
    let n = c.count.ensures in
    less_room c.make_room.new.self (c.args.root.0 + 1) c.count.result (omega (arith, number, n)) c.in_ok-make_room.ensures.room

pub learn-requires-clause-costs : goal.learn-requires-clause-costs
learn-requires-clause-costs c = c.make_room.ensures.costs c.args.store.now c.requires.costs

pub known_cost-requires : goal.known_cost-requires
known_cost-requires c = (c.learn.ensures.learns.costs c.args.root.0 c.in_ok-learn.ensures.known).room

pub returns-clause-cost : goal.returns-clause-cost
returns-clause-cost c =
    let nodes = c.args.store.now in
    let root = c.args.root.0 in
    subst (λ n. IsCostOf nodes (level_of nodes root) root n) (sym c.known_cost.ensures) (c.learn.ensures.learns.costs root c.in_ok-learn.ensures.known).costed.least

use Rattle.table_compose.proofs.least_cost.cost.Goals as goal

pub of-requires-clause-costs : goal.of-requires-clause-costs
of-requires-clause-costs c = c.new-costs.ensures c.args.store.now

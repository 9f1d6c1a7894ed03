use Rattle.table_compose.proofs.composition.plans_within.Goals as goal

pub learn-requires-clause-plans : goal.learn-requires-clause-plans
learn-requires-clause-plans c = c.new-plans.ensures c.args.store.now

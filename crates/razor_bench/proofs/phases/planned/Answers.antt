use Rattle.razor_bench.proofs.phases.planned.Goals as goal

pub learn-requires-clause-plans : goal.learn-requires-clause-plans
learn-requires-clause-plans c = c.new-plans.ensures c.args.store.now

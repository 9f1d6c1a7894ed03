use Rattle.table_compose.proofs.KeptPlans.{keeps_twice}
use Rattle.table_compose.proofs.diagram_plans.Plans.learn_within.Goals as goal

pub returns-clause-earlier : goal.returns-clause-earlier
returns-clause-earlier c = keeps_twice c.args.self.now c.learn_all.new.self c.learn_costly.new.self c.learn_all.ensures.earlier c.learn_costly.ensures.earlier

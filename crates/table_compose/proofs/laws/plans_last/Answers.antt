use Rattle.table_compose.proofs.KeptPlans.{plans_while_growing}
use Rattle.table_compose.proofs.laws.plans_last.Goals as goal

pub returns : goal.returns
returns c = λ old new plans g are. plans_while_growing old new g plans are

use Rattle.node_store.proofs.Canonical.{has_level, leads_on}
use Rattle.node_store.proofs.laws.levels.Goals as goal

pub returns-clause-within : goal.returns-clause-within
returns-clause-within c = has_level

pub returns-clause-next : goal.returns-clause-next
returns-clause-next c = λ nodes id v s field h. (leads_on nodes id v s field h).1

pub returns-clause-older : goal.returns-clause-older
returns-clause-older c = λ nodes id v s field h. (leads_on nodes id v s field h).0

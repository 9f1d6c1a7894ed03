use Rattle.std.proofs.Common.{subst}
use Rattle.node_store.specs.Store.{IsStore}
use Rattle.node_store.proofs.Canonical.{one}
use Rattle.node_store.proofs.store.Store.same_answers.Goals as goal

pub returns-clause-same : goal.returns-clause-same
returns-clause-same c = λ level a b. one c.args.self.now level a b (subst (λ ns. IsStore ns) c.self.view_is c.self.invariant)

use Rattle.std.specs.HashSet.{contains}
use Rattle.fdd_ops.specs.Agreement.{Agree}
use Rattle.fdd_ops.specs.Agreed.{same_pair}
use Rattle.fdd_ops.proofs.Kept.{kept, still}
use Rattle.fdd_ops.proofs.agreed.Agreed.keep.Goals as goal

pub returns-clause-agree : goal.returns-clause-agree
returns-clause-agree c = λ question nodes all here.
    kept (contains same_pair c.args.self.now.pairs) (contains same_pair c.insert.new.self) c.args.pair c.in_ok-insert.ensures.updates.0
    (λ pair. Agree question nodes pair.which.0 pair.answers.0) all here

pub returns-clause-earlier : goal.returns-clause-earlier
returns-clause-earlier c = still (contains same_pair c.args.self.now.pairs) (contains same_pair c.insert.new.self) c.args.pair c.in_ok-insert.ensures.updates.0

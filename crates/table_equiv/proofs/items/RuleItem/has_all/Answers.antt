use Rattle.partition_check.proofs.Outcomes.{on_true}
use Rattle.table_equiv.proofs.items.RuleItem.has_all.Goals as goal

pub returns : goal.returns
returns c = on_true c.covers.result _ _ (λ each header at. each header at.is (c.args.cube.now.held header at)) c.covers.ensures.yes

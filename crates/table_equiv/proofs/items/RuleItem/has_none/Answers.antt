use Rattle.table_equiv.proofs.Outcomes.{not_true}
use Rattle.table_equiv.proofs.items.RuleItem.has_none.Goals as goal

pub returns : goal.returns
returns c = not_true c.meets.result _ _ (λ none header at. none header at.is (c.args.cube.now.held header at)) c.meets.ensures.no

use Rattle.std.proofs.Common.{◌∙◌, subst, sym}
use Rattle.edit_session.specs.Ways.{IsNotBegun, Whole}
use Rattle.edit_session.specs.declared.refusal.CommitRefusal.{CommitRefusal}
use Rattle.edit_session.proofs.Ways.{same-swapping, whole-refused, whole-stays}
use Rattle.edit_session.proofs.way.BlockReplaced.begin.Goals as goal

pub returns-in-Ok-clause-begun : goal.returns-in-Ok-clause-begun
returns-in-Ok-clause-begun g c = (c.in-Ok.ensures.ok, c.begin.ensures.state)

pub returns-in-Err-clause-refused : goal.returns-in-Err-clause-refused
returns-in-Err-clause-refused g c =
    subst (λ (r : CommitRefusal). IsNotBegun Whole c.args.swapper.now.state c.args.table r) (sym c.from.ensures)
    (whole-refused c.args.swapper.now.state c.args.table c.in-Err.refusal c.requires c.in-Err.ensures.err.1)

pub returns-in-Err-clause-unchanged : goal.returns-in-Err-clause-unchanged
returns-in-Err-clause-unchanged g c =
    same-swapping c.begin.new.self c.args.swapper.now c.begin.ensures.device
    (c.begin.ensures.state ∙ whole-stays c.args.swapper.now.state c.args.table c.in-Err.refusal c.in-Err.ensures.err.1)

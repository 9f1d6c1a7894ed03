use Rattle.std.proofs.Common.{◌∙◌, ap, sym}
use Rattle.edit_session.specs.Editing.{ListedSwap}
use Rattle.edit_session.specs.Machine.{aborted_copies}
use Rattle.edit_session.proofs.Tables.{aborts-copies, aborts-none, aborts-still, has-aborted}
use Rattle.edit_session.proofs.list_swapper.ListSwapper.abort.Goals as goal

pub invariant_of-self : goal.invariant_of-self
invariant_of-self g c =
    aborts-still c.self.inside.lists c.abort.new.self.state c.self.inside.updater.state _ _ (sym c.in_err-stage.ensures.answer) c.abort.ensures.state c.self.invariant

pub returns-in_err-stage-clause-copies : goal.returns-in_err-stage-clause-copies
returns-in_err-stage-clause-copies g c =
    aborts-none c.self.inside.lists c.self.inside.updater.state _ _ (sym c.in_err-stage.ensures.answer)
    ∙ ap (λ (v : ListedSwap g.row.V.Denot). aborted_copies v.state v.copies) c.self.view_is

pub invariant_of-self-2 : goal.invariant_of-self-2
invariant_of-self-2 g c =
    has-aborted c.reach.new.self c.self.inside.lists c.abort.new.self.state c.self.inside.updater.state c.in_ok-stage.stage _
    (sym c.in_ok-stage.ensures.answer) c.reach.ensures c.abort.ensures.state c.self.invariant

pub returns-clause-copies : goal.returns-clause-copies
returns-clause-copies g c =
    aborts-copies c.reach.new.self c.self.inside.lists c.self.inside.updater.state c.in_ok-stage.stage _ (sym c.in_ok-stage.ensures.answer) c.reach.ensures
    ∙ ap (λ (v : ListedSwap g.row.V.Denot). aborted_copies v.state v.copies) c.self.view_is

use Rattle.edit_session.proofs.Tables.{has-stepped, same-tables}
use Rattle.edit_session.proofs.list_swapper.ListSwapper.step.Goals as goal

pub invariant_of-self : goal.invariant_of-self
invariant_of-self g c =
    same-tables c.self.inside.lists c.step.new.self.state c.self.inside.updater.state c.in_err-stage.ensures.unchanged c.self.invariant

pub invariant_of-self-2 : goal.invariant_of-self-2
invariant_of-self-2 g c =
    has-stepped c.reach.new.self c.self.inside.lists c.step.new.self.state c.self.inside.updater.state c.in_ok-stage.stage
    c.in_ok-stage.ensures.ok c.reach.ensures c.in_ok-stage.ensures.stepped c.self.invariant

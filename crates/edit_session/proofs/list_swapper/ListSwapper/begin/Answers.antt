use Rattle.std.proofs.Common.{ap}
use Rattle.bank_update.specs.Swapping.{Swapping}
use Rattle.edit_session.proofs.Tables.{has-begun, same-tables}
use Rattle.edit_session.proofs.Ways.{planned}
use Rattle.edit_session.proofs.list_swapper.ListSwapper.begin.Goals as goal

pub invariant_of-self : goal.invariant_of-self
invariant_of-self g c =
    same-tables c.self.inside.lists c.begin.new.updater.state c.self.inside.updater.state
    (ap (λ (v : Swapping g.row.V.Denot). v.state) c.in_err-total.ensures.unchanged) c.self.invariant

pub invariant_of-self-2 : goal.invariant_of-self-2
invariant_of-self-2 g c =
    has-begun c.begin-2.new.self c.self.inside.lists c.begin.new.updater.state c.self.inside.updater.state c.args.list c.args.table c.in_ok-total.total
    (planned g.T.Replaced.way c.self.inside.updater.state c.begin.new.updater.state c.args.table c.in_ok-total.total c.in_ok-total.ensures.begun)
    c.begin-2.ensures c.self.invariant c.requires.table

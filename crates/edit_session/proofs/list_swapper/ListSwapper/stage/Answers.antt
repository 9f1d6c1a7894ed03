use Rattle.std.proofs.Common.{subst}
use Rattle.edit_session.specs.Editing.{ListedSwap}
use Rattle.edit_session.specs.Sound.{AreTablesOf}
use Rattle.edit_session.proofs.list_swapper.ListSwapper.stage.Goals as goal

pub returns-clause-tables : goal.returns-clause-tables
returns-clause-tables g c = subst (λ (v : ListedSwap g.row.V.Denot). AreTablesOf v.copies v.state) c.self.view_is c.self.invariant

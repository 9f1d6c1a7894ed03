use Rattle.std.proofs.Common.{subst, sym}
use Rattle.edit_session.specs.Ways.{InPlace, IsNotBegun}
use Rattle.edit_session.specs.declared.refusal.CommitRefusal.{CommitRefusal}
use Rattle.edit_session.proofs.Ways.{patch-refused}
use Rattle.edit_session.proofs.way.SlotTableReplaced.begin.Goals as goal

pub returns-clause-refused : goal.returns-clause-refused
returns-clause-refused g c =
    subst (λ (r : CommitRefusal). IsNotBegun InPlace c.args.patcher.now.state c.args.table r) (sym c.from.ensures)
    (patch-refused c.args.patcher.now.state c.args.table c.in-Err.refusal c.requires c.in-Err.ensures.err)

use Rattle.edit_session.proofs.Tables.{new-tables}
use Rattle.edit_session.proofs.list_swapper.ListSwapper.new.Goals as goal

pub invariant_of-result : goal.invariant_of-result
invariant_of-result g c = new-tables _ _ _ c.new.ensures c.requires

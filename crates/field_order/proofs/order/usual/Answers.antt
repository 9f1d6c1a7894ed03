use Rattle.std.proofs.Common.{◌≡◌, false, true}
use Rattle.field_order.proofs.Rearranged.{usual_order}
use Rattle.field_order.proofs.order.usual.Goals as goal

pub unreachable-requires : goal.unreachable-requires
unreachable-requires c = let none : false ≡ true = c.in-None.ensures.some.1 usual_order in cc

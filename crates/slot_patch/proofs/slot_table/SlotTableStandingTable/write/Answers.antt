use Rattle.std.proofs.Common.{◌∙◌, ap, slice_get, sym}
use Rattle.slot_patch.proofs.slot_table.SlotTableStandingTable.write.Goals as goal

pub returns : goal.returns
returns c = ap (λ ws. slice_get ws c.args.place) (sym c.deref.ensures.value) ∙ c.write_at.ensures

use Rattle.std.proofs.Common.{◌∙◌, None, Some}
use Rattle.slot_patch.proofs.Begins.{taken}
use Rattle.slot_patch.proofs.slot_table.SlotTableStandingTable.puts.Goals as goal

pub returns-in-Some : goal.returns-in-Some
returns-in-Some c = c.is_some.ensures ∙ taken c.args.slot (Some c.in-Some.held) c.in-Some.ensures c.deref.ensures.value

pub returns-in-None : goal.returns-in-None
returns-in-None c = taken c.args.slot None c.in-None.ensures c.deref.ensures.value

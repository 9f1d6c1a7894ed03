use Rattle.slot_patch.specs.declared.spreading.Spread.{Spread}
use Rattle.slot_patch.proofs.Merges.{spread-new}
use Rattle.slot_patch.proofs.spreading.Spread.with_room.Goals as goal

pub returns-clause-none : goal.returns-clause-none
returns-clause-none c =
    let now : Spread = record { next = c.in_ok-with_capacity.field-0; slots = c.in_ok-with_capacity-2.field-0 } in
    spread-new now c.in_ok-with_capacity.ensures.items c.in_ok-with_capacity-2.ensures.items

use Rattle.std.proofs.Common.{◌++◌, ◌∙◌, ap, sym}
use Rattle.slot_patch.specs.Ordered.{placed}
use Rattle.slot_patch.specs.declared.spreading.Spread.{Spread}
use Rattle.slot_patch.proofs.Merges.{spread-more}
use Rattle.slot_patch.proofs.spreading.Spread.put.Goals as goal

pub returns-clause-spread : goal.returns-clause-spread
returns-clause-spread c = λ olds news word h.
    let before = c.pad.new.self in
    let now : Spread = record { next = c.push.new.self; slots = c.push_slot.new.slots } in
    spread-more olds news before now c.args.old c.args.new (c.in_ok-pad.ensures.spread olds news h) c.in_ok-push.ensures.items word
    (c.in_ok-push_slot.ensures ∙ ap (λ n. before.slots.items ++ placed c.args.old n) (sym c.in_ok-pad.ensures.length))

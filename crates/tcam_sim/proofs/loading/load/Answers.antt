use Rattle.std.proofs.Common.{◌≡◌, ◌+◌, ◌<◌, [], ◌∷◌, ◌++◌, Some, length, take, set, get_or, ap, sym, ◌∙◌, arith, add-one}
use Rattle.std.proofs.lemmas.List.{length-take-le, take_more}
use Rattle.razor_limits.specs.Counts.{counted}
use Rattle.tcam_sim.specs.Slots.{stored, filled}
use Rattle.tcam_sim.specs.Tries.{counted_times}
use Rattle.tcam_sim.proofs.Filling.{filled-next}
use Rattle.tcam_sim.proofs.loading.load.Goals as goal

pub loop-slot-preserved : goal.loop-slot-preserved
loop-slot-preserved g c =
    let entries = c.args.table.now.entries.items in
    let slots = length (g.V.Device.held c.args.device.now) in
    let slot = c.loop-slot.slot in
    let item = c.entry-item.result in
    let same = c.deref-entry-items.ensures.value in
    let within : slot < length entries = omega (arith, c.loop-slot-test.true, ap length same) in
    let read : item ≡ get_or entries slot item = c.entry-item.is ∙ ap (λ xs. get_or xs slot item) same in
    let next : take (slot + 1) entries ≡ take slot entries ++ item ∷ [] = take_more entries slot item within ∙ ap (λ x. take slot entries ++ x ∷ []) (sym read) in
    record {
      tried = c.in_ok-set.ensures.tried ∙ ap counted c.loop-slot.invariant.tried ∙ ap (λ n. counted_times n (g.V.Device.tries c.args.device.now)) (sym (add-one slot));
      held = c.in_ok-set.ensures.ok ∙ ap (λ xs. set xs slot (Some (stored item))) c.loop-slot.invariant.held
          ∙ filled-next slots slot (take slot entries) item (length-take-le slot entries (omega (arith, within))) (omega (arith, within, c.requires.room))
          ∙ ap (filled slots) (sym next);
      counts = omega (arith, c.loop-slot.invariant.counts, c.in_ok-set.ensures.counts);
    }

use Rattle.std.proofs.Common.{◌≡◌, Some, None, ap, sym, ◌∙◌, slice_index}
use Rattle.std.proofs.lemmas.List.{get_or_default}
use Rattle.tcam_sim.specs.Keys.{key_bits}
use Rattle.tcam_sim.proofs.BankSlots.{decision_in_slot, looked_up}
use Rattle.tcam_sim.proofs.bank.BankDevice.look.Goals as goal

pub returns-in_err-slot : goal.returns-in_err-slot
returns-in_err-slot c = rw c.from_residual.ensures (looked_up c.args.self.now c.args.header.now.values (key_bits c.of.result) None c.of.ensures c.in_err-slot.ensures.first)

pub returns : goal.returns
returns c =
    let bank = c.args.self.now in
    let slot = c.in_ok-slot.slot in
    let within = c.in_ok-slot.ensures.within in
    let read : c.index.result.now ≡ slice_index bank.decisions.items slot = c.index.ensures ∙ get_or_default bank.decisions.items slot c.index.result.now 0 within in
    ap (λ d. Some (slot, d)) (read ∙ sym (decision_in_slot bank slot within))
    ∙ looked_up bank c.args.header.now.values (key_bits c.of.result) (Some slot) c.of.ensures c.in_ok-slot.ensures.first

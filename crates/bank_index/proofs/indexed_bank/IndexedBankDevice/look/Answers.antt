use Rattle.std.proofs.Common.{◌≡◌, ◌∙◌, Some, None, ap, subst, length}
use Rattle.std.specs.Prelude.{IfSome}
use Rattle.tcam_sim.specs.Bank.{slots_of}
use Rattle.tcam_sim.specs.Slots.{filled}
use Rattle.bank_index.proofs.Filled.{looked_up}
use Rattle.bank_index.proofs.indexed_bank.IndexedBankDevice.look.Goals as goal

pub returns-in_err-slot : goal.returns-in_err-slot
returns-in_err-slot c =
    let slots = slots_of c.args.self.now.bank in
    let same = subst (λ o. IfSome o (λ index. slots ≡ filled (length slots) index.entries.items)) c.in-Some.is c.args.self.now.same in
    rw c.from_residual.ensures (looked_up slots c.in-Some.index.entries.items c.args.header.now.values None same (c.in_err-slot.ensures ∙ c.in-Some-slots.ensures))

pub returns : goal.returns
returns c =
    let slots = slots_of c.args.self.now.bank in
    let same = subst (λ o. IfSome o (λ index. slots ≡ filled (length slots) index.entries.items)) c.in-Some.is c.args.self.now.same in
    ap (λ d. Some (c.in_ok-slot.slot, d)) c.decision.ensures
    ∙ looked_up slots c.in-Some.index.entries.items c.args.header.now.values (Some c.in_ok-slot.slot) same (c.in_ok-slot.ensures ∙ c.in-Some-slots.ensures)

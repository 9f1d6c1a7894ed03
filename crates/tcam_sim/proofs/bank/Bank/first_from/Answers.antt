use Rattle.std.proofs.Common.{◌<◌, ◌∙◌, length, sym, arith, ap}
use Rattle.tcam_sim.specs.Bank.{slots_of}
use Rattle.tcam_sim.specs.Keys.{key_bits}
use Rattle.tcam_sim.specs.Slots.{slot_agrees}
use Rattle.tcam_sim.proofs.BankSlots.{slots_of_at}
use Rattle.tcam_sim.proofs.Searches.{none_more}
use Rattle.tcam_sim.proofs.bank.Bank.first_from.Goals as goal

pub returns-then-agrees-clause-found : goal.returns-then-agrees-clause-found
returns-then-agrees-clause-found c =
    let bank = c.args.self.now in
    let within : c.loop-slot.slot < length bank.decisions.items = omega (arith, c.loop-slot-test.true, c.len-slot-end.ensures, bank.decisions.ok.0) in
    record {
      behind = c.loop-slot.auto.slot;
      below = within;
      agrees = ap (slot_agrees (key_bits c.args.key)) (slots_of_at bank c.loop-slot.slot within) ∙ sym c.if-agrees.ensures;
      before = c.loop-slot.invariant;
    }

pub loop-slot-preserved : goal.loop-slot-preserved
loop-slot-preserved c =
    let bank = c.args.self.now in
    let within : c.loop-slot.slot < length bank.decisions.items = omega (arith, c.loop-slot-test.true, c.len-slot-end.ensures, bank.decisions.ok.0) in
    none_more (slots_of bank) (key_bits c.args.key) c.args.from c.loop-slot.slot c.loop-slot.invariant
    (ap (slot_agrees (key_bits c.args.key)) (slots_of_at bank c.loop-slot.slot within) ∙ sym c.if-agrees.ensures)

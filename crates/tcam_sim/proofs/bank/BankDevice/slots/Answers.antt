use Rattle.std.proofs.Common.{sym, ◌∙◌}
use Rattle.tcam_sim.proofs.BankSlots.{length-slots_of}
use Rattle.tcam_sim.proofs.bank.BankDevice.slots.Goals as goal

pub returns : goal.returns
returns c = c.len.ensures ∙ c.args.self.now.decisions.ok.0 ∙ sym (length-slots_of c.args.self.now)

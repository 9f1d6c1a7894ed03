use Rattle.std.proofs.Common.{arith}
use Rattle.tcam_sim.proofs.BankSlots.{length-slots_of}
use Rattle.tcam_sim.proofs.bank.BankDevice.set.Goals as goal

pub put-requires-clause-within : goal.put-requires-clause-within
put-requires-clause-within c = omega (arith, c.requires, length-slots_of c.args.self.now)

pub put-requires-in-None-clause-within : goal.put-requires-in-None-clause-within
put-requires-in-None-clause-within c = omega (arith, c.requires, length-slots_of c.args.self.now)

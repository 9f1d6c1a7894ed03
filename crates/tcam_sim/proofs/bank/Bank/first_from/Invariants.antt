use Rattle.tcam_sim.specs.Bank.{slots_of}
use Rattle.tcam_sim.specs.Keys.{key_bits}
use Rattle.tcam_sim.specs.Search.{NoneAgree}
use Rattle.tcam_sim.proofs.bank.Bank.first_from.Given as goal

abbrev pub invariant-loop-slot : goal.invariant-loop-slot
invariant-loop-slot l = NoneAgree (slots_of l.self) (key_bits l.key) l.from l.slot

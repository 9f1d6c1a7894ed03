use Rattle.std.proofs.Common.{◌*◌}
use Rattle.tcam_sim.specs.Bank.{slots_of}
use Rattle.tcam_sim.specs.Keys.{key_bits}
use Rattle.tcam_sim.specs.Search.{NoneAgree}
use Rattle.tcam_sim.proofs.bank.Bank.first_in_eights.Given as goal

abbrev pub invariant-loop-count : goal.invariant-loop-count
invariant-loop-count l = NoneAgree (slots_of l.self) (key_bits l.key) 0 (8 * l.count)

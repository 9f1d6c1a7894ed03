use Rattle.std.proofs.Common.{◌≤◌, ◌/◌, ◌*◌, Some, sym, length, arith}
use Rattle.tcam_sim.specs.Bank.{slots_of}
use Rattle.tcam_sim.specs.Keys.{key_bits}
use Rattle.tcam_sim.proofs.BankSlots.{length-slots_of}
use Rattle.tcam_sim.proofs.Searches.{searched, searched_in_two, first_within}
use Rattle.tcam_sim.proofs.bank.Bank.first.Goals as goal

pub returns-in-Some-clause-first : goal.returns-in-Some-clause-first
returns-in-Some-clause-first c =
    let bank = c.args.self.now in
    let eights = c.len-eights.result / 8 in
    let within : 8 * eights ≤ length bank.decisions.items = omega (arith, c.len-eights.ensures, bank.decisions.ok.0) in
    searched (slots_of bank) (key_bits c.args.key) (length bank.decisions.items) (Some c.in-Some.slot) (sym (length-slots_of bank))
    (first_within (slots_of bank) (key_bits c.args.key) 0 (8 * eights) (length bank.decisions.items) c.in-Some.slot within c.in-Some.ensures.found) tt

pub returns-in-None-clause-first : goal.returns-in-None-clause-first
returns-in-None-clause-first c =
    let bank = c.args.self.now in
    searched_in_two (slots_of bank) (key_bits c.args.key) (8 * (c.len-eights.result / 8)) (length bank.decisions.items) c.first_from.result (sym (length-slots_of bank))
    c.in-None.ensures.none c.first_from.ensures.found c.first_from.ensures.none

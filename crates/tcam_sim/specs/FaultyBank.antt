-- What a bank holds whose calls may fail, and which calls fail.
use Rattle.std.specs.Prelude.{ℕ, Bool, List, Option, ◌==◌}
use Rattle.std.specs.List.{list_any}
use Rattle.razor_limits.specs.Counts.{counted}
use Rattle.tcam_sim.specs.Slots.{Stored}
use Rattle.tcam_sim.specs.Bank.{slots_of}
use Rattle.tcam_sim.specs.declared.faulty_bank.FaultyBank.{FaultyBank}

-- what the slots hold
abbrev pub faulty_slots : FaultyBank → List (Option Stored)
faulty_slots bank = slots_of bank.bank

-- the numbers of the calls of `set` that were chosen to fail
abbrev pub chosen_sets : FaultyBank → List ℕ
chosen_sets bank = bank.failing.items

-- how many calls of `set` were made
abbrev pub sets_made : FaultyBank → ℕ
sets_made bank = bank.calls

-- how many of them failed
abbrev pub set_faults : FaultyBank → ℕ
set_faults bank = bank.faults

-- whether the next call of `set` is one of those that were chosen
abbrev pub set_fails : FaultyBank → Bool
set_fails bank = list_any (λ call. call == counted bank.calls) bank.failing.items

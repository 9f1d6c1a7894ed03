-- The next write of an update, and the stages that may be reached.
use Rattle.std.specs.Prelude.{◌≡◌, ◌≢◌, ◌<◌, ◌≤◌, true, None, length, option_map, set}
use Rattle.tcam_sim.specs.Slots.{stored}
use Rattle.bank_update.specs.Machine.{State, Update, held, stepped, total}
use Rattle.bank_update.specs.Sound.{MayBegin}
use Rattle.bank_update.specs.declared.write.Put.{Put}

-- an update is pending, and with this write the slots hold what the next state holds
pub record IsNextWrite (s : State) (w : Put) : Type 0 where
  pub pending : s.pending ≢ None
  pub within : w.slot < length (held s)
  pub leads : set (held s) w.slot (option_map stored w.entry) ≡ held (stepped s)

-- going back not all writes are done
pub record MayReach (s : State) (u : Update) : Type 0 where
  pub plan : MayBegin s.settled u.plan
  pub within : u.done ≤ total u
  pub back : u.back ≡ true → u.done < total u

-- Replacing a table in a memory write by write: what is kept, and what each event answers and does.
use Rattle.std.specs.Prelude.{ℕ, zero, suc, ◌+◌, ◌-◌, ◌==◌, Bool, false, true, cond, List, length, Option, Some, None, option_map, option_and_then, if◌then◌else◌}
use Rattle.std.specs.Str.{bytes_eq}
use Rattle.field_boxes.specs.Names.{name_at}
use Rattle.tcam_sim.specs.Slots.{look_up}
use Rattle.bank_update.specs.Plans.{Plan, bank_after_writes, names_between}
use Rattle.bank_update.specs.Standing.{Bank, Standing, answer, bank_of}
use Rattle.bank_update.specs.declared.stage.Stage.{Stage}

-- an update that isn't over: its plan, how many writes are done, and whether it goes back
pub record Update : Type 0 where
  pub plan : Plan
  pub done : ℕ
  pub back : Bool

-- the settled table, and the update that is pending, if one is
pub record State : Type 0 where
  pub settled : Standing
  pub pending : Option Update

-- the state with this update pending, or with none
abbrev pub with_update : State → Option Update → State
with_update s pending = record { settled = s.settled; pending = pending }

-- what the slots hold: the settled table, after the writes that are done
abbrev pub held_with : State → Option Update → Bank
held_with s None = bank_of s.settled.slots
held_with s (Some u) = bank_after_writes s.settled u.plan u.done

-- what the slots hold
abbrev pub held : State → Bank
held s = held_with s s.pending

-- how many writes an update has
abbrev pub total : Update → ℕ
total u = length u.plan.writes

-- the stage of an update
abbrev pub stage_of : Update → Stage
stage_of u = record { done = u.done; total = total u; back = u.back }

-- the stage of the update that is pending
abbrev pub stage : State → Option Stage
stage s = option_map stage_of s.pending

-- the new table settles, and no update is pending
abbrev pub settle : Update → State
settle u = record { settled = u.plan.new; pending = None }

-- an update that has reached a stage: forward the new table settles with the last write, and going back the update is over when no
-- write is left
abbrev pub reached : State → Update → State
reached s u =
    if u.back then (if u.done == 0 then with_update s None else with_update s (Some u))
    else (if u.done == total u then settle u else with_update s (Some u))

-- an update by this plan begins; one without writes is over at once
abbrev pub begun_by : State → Plan → State
begun_by s plan = reached s (record { plan = plan; done = 0; back = false })

-- A step whose write succeeds, and abort.

-- one write more, or one less
abbrev pub moved : Update → Update
moved u = record { plan = u.plan; done = if u.back then u.done - 1 else u.done + 1; back = u.back }

-- the update, going back
abbrev pub turned_back : Update → Update
turned_back u = record { plan = u.plan; done = u.done; back = true }

-- the state after a change of the pending update
abbrev pub reached_by : (Update → Update) → State → Option Update → State
reached_by change s None = s
reached_by change s (Some u) = reached s (change u)

-- the state after a step that succeeds
abbrev pub stepped : State → State
stepped s = reached_by moved s s.pending

-- the state after abort
abbrev pub aborted : State → State
aborted s = reached_by turned_back s s.pending

-- the stage that a step reaches; none where no update is pending
abbrev pub step_answer : State → Option Stage
step_answer s = option_map (λ u. stage_of (moved u)) s.pending

-- the stage that abort answers; none where no update is pending
abbrev pub abort_answer : State → Option Stage
abort_answer s = option_map (λ u. stage_of (turned_back u)) s.pending

-- so many steps that succeed
abbrev pub after_steps : ℕ → State → State
after_steps zero s = s
after_steps (suc n) s = after_steps n (stepped s)

-- Look.

-- the names for what a slot holds: those of the new table where an entry of it is to stand, else those of the settled one
abbrev pub names_with : State → Option Update → ℕ → List (List ℕ)
names_with s None slot = s.settled.names
names_with s (Some u) slot = names_between s.settled u.plan.new slot

-- the names for what a slot holds now
abbrev pub names_for : State → ℕ → List (List ℕ)
names_for s slot = names_with s s.pending slot

-- the name of the decision in the least slot that matches
abbrev pub looked : State → List ℕ → Option (List ℕ)
looked s values = option_and_then (λ found. name_at (names_for s found.0) found.1) (look_up (held s) values)

-- whether two answers are the same
abbrev pub same_answer : Option (List ℕ) → Option (List ℕ) → Bool
same_answer None None = true
same_answer None (Some b) = false
same_answer (Some a) None = false
same_answer (Some a) (Some b) = bytes_eq a b

-- whether the header has the answer of the new table
abbrev pub has_turned : State → Update → List ℕ → Bool
has_turned s u values = same_answer (looked s values) (answer u.plan.new values)

-- the answer of the settled table; during an update that, or the answer of the new table
abbrev pub old_or_new : State → Option Update → List ℕ → Option (List ℕ)
old_or_new s None values = answer s.settled values
old_or_new s (Some u) values = cond (has_turned s u values) (answer u.plan.new values) (answer s.settled values)

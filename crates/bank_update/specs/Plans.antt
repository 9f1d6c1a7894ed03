-- The writes by which one table takes the place of another.
use Rattle.std.specs.Prelude.{◌≡◌, ◌≢◌, ◌⊎◌, ℕ, zero, suc, ◌≤◌, List, length, Option, Some, None, option_and_then, option_map, set, slice_get, if◌then◌else◌}
use Rattle.field_boxes.specs.Names.{name_at}
use Rattle.tcam_sim.specs.Slots.{look_up, stored}
use Rattle.bank_update.specs.Standing.{Bank, Standing, answer, bank_of, is_taken}
use Rattle.bank_update.specs.declared.write.Write.{Write}

-- the bank after a write
abbrev pub written : Bank → Option Write → Bank
written bank None = bank
written bank (Some w) = set bank w.slot (option_map stored w.entry)

-- the bank after the first writes
abbrev pub after : Bank → List Write → ℕ → Bank
after bank writes zero = bank
after bank writes (suc d) = written (after bank writes d) (slice_get writes d)

-- each write says what stood in its slot
abbrev pub SayWhatStood : Bank → List Write → Type 0
SayWhatStood old writes = (d : ℕ) (w : Write) → slice_get writes d ≡ Some w → slice_get (after old writes d) w.slot ≡ Some (option_map stored w.before)

-- writes, and the table that they lead to
pub record Plan : Type 0 where
  pub writes : List Write
  pub new : Standing

-- the names for what a slot holds between two tables: those of the new one where an entry of it is to stand, else those of the old one
abbrev pub names_between : Standing → Standing → ℕ → List (List ℕ)
names_between old new slot = if is_taken new.slots slot then new.names else old.names

-- the answer of a bank between two tables, by name
abbrev pub answer_between : Standing → Standing → Bank → List ℕ → Option (List ℕ)
answer_between old new bank values = option_and_then (λ found. name_at (names_between old new found.0) found.1) (look_up bank values)

-- what the slots hold after so many writes of a plan
abbrev pub bank_after_writes : Standing → Plan → ℕ → Bank
bank_after_writes old plan d = after (bank_of old.slots) plan.writes d

-- the answer then
abbrev pub answer_after : Standing → Plan → ℕ → List ℕ → Option (List ℕ)
answer_after old plan d values = answer_between old plan.new (bank_after_writes old plan d) values

-- after any number of its writes each header has the old answer or the new one, and keeps a new one that is another than the old one;
-- each write says what stood in its slot; and behind the last write the new table stands
pub record IsGood (old : Standing) (plan : Plan) : Type 0 where
  pub old_or_new : (d : ℕ) (values : List ℕ) → d ≤ length plan.writes →
      (answer_after old plan d values ≡ answer old values) ⊎ (answer_after old plan d values ≡ answer plan.new values)
  pub stays : (d e : ℕ) (values : List ℕ) → d ≤ e → e ≤ length plan.writes → answer plan.new values ≢ answer old values →
      answer_after old plan d values ≡ answer plan.new values → answer_after old plan e values ≡ answer plan.new values
  pub stood : SayWhatStood (bank_of old.slots) plan.writes
  pub ends : bank_after_writes old plan (length plan.writes) ≡ bank_of plan.new.slots

-- whatever is found on the way is the number of a name
abbrev pub FindsNames : Standing → Plan → Type 0
FindsNames old plan = (d : ℕ) (values : List ℕ) (slot decision : ℕ) → d ≤ length plan.writes →
    look_up (bank_after_writes old plan d) values ≡ Some (slot, decision) → decision ≤ length (names_between old plan.new slot)

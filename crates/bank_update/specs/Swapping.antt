-- A device whose table is replaced, the stages of its update, and what a step leaves.
use Rattle.std.specs.Prelude.{◌≡◌, ◌≢◌, ℕ, List, Bool, Some, false, IfSome}
use Rattle.bank_update.specs.Machine.{State, Update, looked, with_update}
use Rattle.bank_update.specs.Standing.{answer}

-- a device, and the state of its update
pub record Swapping (V : Type 0) : Type 0 where
  pub device : V
  pub state : State

-- the state in which so many writes of the update are done, and it goes forward or back
abbrev pub at_stage : State → Update → ℕ → Bool → State
at_stage s u done back = with_update s (Some (record { plan = u.plan; done = done; back = back }))

-- from a stage to a later one, going forward: a header that has the answer of the new table, where the settled one's is
-- another, keeps it
abbrev pub KeepsNew : State → State → List ℕ → Type 0
KeepsNew s later values =
    IfSome s.pending (λ u. u.back ≡ false → answer u.plan.new values ≢ answer s.settled values →
    looked s values ≡ answer u.plan.new values → looked later values ≡ answer u.plan.new values)

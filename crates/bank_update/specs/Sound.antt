-- What always holds of the state of an update.
use Rattle.std.specs.Prelude.{◌≡◌, ◌<◌, true, length, IfSome}
use Rattle.ternary_words.specs.Limits.{AreNumbered}
use Rattle.bank_update.specs.Machine.{State, Update, total}
use Rattle.bank_update.specs.Plans.{FindsNames, IsGood, Plan}
use Rattle.bank_update.specs.Standing.{Standing, entries_in}

-- the plan is good for the table, and decisions are the numbers of names on the way and behind it
pub record MayBegin (old : Standing) (plan : Plan) : Type 0 where
  pub good : IsGood old plan
  pub finds : FindsNames old plan
  pub numbered : AreNumbered (length plan.new.names) (entries_in plan.new.slots)

-- some write of such a plan is left, forward and back
pub record IsUnderway (s : State) (u : Update) : Type 0 where
  pub plan : MayBegin s.settled u.plan
  pub left : u.done < total u
  pub begun : u.back ≡ true → 0 < u.done

-- each decision of the settled table is the number of a name, and what is pending is underway
pub record IsSound (s : State) : Type 0 where
  pub numbered : AreNumbered (length s.settled.names) (entries_in s.settled.slots)
  pub update : IfSome s.pending (IsUnderway s)

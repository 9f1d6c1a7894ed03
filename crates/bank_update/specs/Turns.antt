-- What one command leaves of a swap and of what is written.
use Rattle.std.specs.Prelude.{◌≡◌, ℕ, ◌≤◌, Bool, List, Result, Ok, Err}
use Rattle.razor_base.specs.Headline.Outcomes.{CallOutcome}
use Rattle.razor_base.specs.Output.{Writes}
use Rattle.ternary_words.specs.declared.table.Table.{Table}
use Rattle.bank_update.specs.Machine.{State}
use Rattle.bank_update.specs.Script.{Event}
use Rattle.tcam_sim.specs.Tries.{counted_times}
use Rattle.bank_update.specs.Runs.{RoseBy, faults_of, line_of, next, tries_of}

-- the command took its turn, and its line is written: the state goes on, and so do the device's counts of faults and of
-- tries
pub record TakesTurn {S T E : Type 0} (written : S → List CallOutcome) (faults : S → ℕ) (before after : S) (tables : List Table) (old new : State) (failed fails tried tries : ℕ) (event : Event) (answer : Result T E) : Type 0 where
  pub breaks : Bool
  pub state : new ≡ next tables old event breaks
  pub counted : RoseBy (faults_of old event breaks) failed fails
  pub counts : failed ≤ fails
  pub once : tries ≡ counted_times (tries_of old event) tried
  pub line : Writes written faults before after (line_of tables old event breaks) answer

-- the answer of begin without the table
abbrev pub without_table : {A B E : Type 0} → Result A (B × E) → Result A E
without_table (Ok total) = Ok total
without_table (Err refused) = Err refused.1

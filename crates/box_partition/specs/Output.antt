-- What stands of a text that is put in parts, until a write fails or memory is refused.
use Rattle.std.specs.Prelude.{◌≡◌, ◌≤◌, ℕ, List, ◌++◌, Result, Ok, Err, OnOk, OnErr, IfErr}
use Rattle.razor_base.specs.Headline.Outcomes.{CallOutcome, Extends}
use Rattle.razor_limits.specs.Counts.{Rose}
use Rattle.razor_base.specs.Output.{AppendsFront, AreRefused, AreTaken, LeavesOut}
use Rattle.box_partition.specs.declared.stop.Stop.{Stop}
use Rattle.box_partition.specs.declared.stop.Stop.TheVariants.{Fault, Memory}

-- the writes of a call that stops so: none failed, or the last one did, and that stopped it
abbrev pub AreStopped : Stop → List CallOutcome → Type 0
AreStopped Fault added = AreRefused added
AreStopped Memory added = AreTaken added

-- and of one that may not stop
abbrev pub AreTried : {T : Type 0} → Result T Stop → List CallOutcome → Type 0
AreTried (Ok value) added = AreTaken added
AreTried (Err stop) added = AreStopped stop added

-- the text is put behind the bytes that waited; where the call stops, a front was appended, and failed writes alone were
-- counted
pub record PutsUntil {S T : Type 0} (written : S → List CallOutcome) (faults : S → ℕ) (before after : S) (waited waits text : List ℕ) (answer : Result T Stop) : Type 0 where
  pub ok : OnOk answer (LeavesOut (written before) (written after) (waited ++ text) waits)
  pub err : OnErr answer (AppendsFront (written before) (written after) (waited ++ text))
  pub tries : Extends (written before) (written after) (AreTried answer)
  pub failed : IfErr answer (λ stop. stop ≡ Fault → Rose (faults before) (faults after))
  pub refused : IfErr answer (λ stop. stop ≡ Memory → faults after ≡ faults before)
  pub calm : OnOk answer (faults after ≡ faults before)
  pub counts : faults before ≤ faults after

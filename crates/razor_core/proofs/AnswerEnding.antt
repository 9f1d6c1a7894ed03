-- How a command ends that answers yes or no and says nothing else.
use Rattle.std.proofs.Common.{List, [], ℕ, Result, Ok, Err, inl, refl, sym, subst}
use Rattle.std.specs.Prelude.{Bool, true, false}
use Rattle.razor_limits.specs.declared.failure.Failed.{Failed}
use Rattle.razor_base.specs.Headline.Outcomes.{CallOutcome, Extends}
use Rattle.razor_base.specs.Output.{AreWrites, Writes}
use Rattle.razor_core.specs.Behind.{EndsOver, IsAnswered}
use Rattle.razor_core.specs.Calls.{WritesBehind}
use Rattle.razor_core.specs.Inputs.{Value}
use Rattle.razor_core.specs.Meaning.{Meaning}
use Rattle.razor_core.specs.Outcome.{Outcome}
use Rattle.razor_core.specs.Stopping.{IsFree}
use Rattle.razor_core.specs.declared.ending.Ending.{Ending}

-- the outcome with this answer and this text
abbrev pub answer_of : Bool → List ℕ → Outcome
answer_of good text = record { yes = good; text = text; line = [] }

-- its writes are those of its text
pub answered_writes : (yes : Bool) (wrote : Result (Unit {0}) Failed) (ending : Ending) (first last : List CallOutcome) → IsAnswered yes wrote ending → Extends first last (AreWrites wrote) → Extends first last (WritesBehind ending)
answered_writes true (Ok done) ending first last is tries = subst (λ (e : Ending). Extends first last (WritesBehind e)) (sym is) tries
answered_writes false (Ok done) ending first last is tries = subst (λ (e : Ending). Extends first last (WritesBehind e)) (sym is) tries
answered_writes true (Err failed) ending first last is tries = subst (λ (e : Ending). Extends first last (WritesBehind e)) (sym is) tries
answered_writes false (Err failed) ending first last is tries = subst (λ (e : Ending). Extends first last (WritesBehind e)) (sym is) tries

module _ (command : Meaning) (values : List Value) (free : IsFree command values) (says : command.says []) (may : command.may_say_no) where
  -- it ends so where its answer is one that it defines
  pub answered_over : {S : Type 0} {written : S → List CallOutcome} {faults : S → ℕ} {before after : S} {text : List ℕ} (wrote : Result (Unit {0}) Failed) (yes : Bool) (ending : Ending) → Writes written faults before after text wrote →
      command.gives values (answer_of yes text) → IsAnswered yes wrote ending → EndsOver command values (written before) (written after) (faults before) (faults after) ending
  answered_over {written = written} {faults = faults} {before = before} {after = after} {text = text} (Ok done) true ending writes gives is =
      subst (EndsOver command values (written before) (written after) (faults before) (faults after)) (sym is)
      (says, record { outcome = answer_of true text; free = inl free; gives = gives; answered = refl; lined = refl; has = writes.ok })
  answered_over {written = written} {faults = faults} {before = before} {after = after} {text = text} (Ok done) false ending writes gives is =
      subst (EndsOver command values (written before) (written after) (faults before) (faults after)) (sym is)
      (may, record { outcome = answer_of false text; free = inl free; gives = gives; answered = refl; lined = refl; has = writes.ok })
  answered_over {written = written} {faults = faults} {before = before} {after = after} {text = text} (Err failed) true ending writes gives is =
      subst (EndsOver command values (written before) (written after) (faults before) (faults after)) (sym is)
      (writes.failed, record { outcome = answer_of true text; free = inl free; gives = inl gives; written = writes.err })
  answered_over {written = written} {faults = faults} {before = before} {after = after} {text = text} (Err failed) false ending writes gives is =
      subst (EndsOver command values (written before) (written after) (faults before) (faults after)) (sym is)
      (writes.failed, record { outcome = answer_of false text; free = inl free; gives = inl gives; written = writes.err })

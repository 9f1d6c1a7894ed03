-- What is said of a text that is checked, how the check of it ends, and its reads and writes.
use Rattle.std.proofs.Common.{◌≡◌, ◌∷◌, ◌++◌, ◌∙◌, ℕ, ◌+◌, ◌≤◌, List, [], Result, Ok, Err, ap, append_assoc, arith, inl, inr, length, length-append, refl, sym, subst, take_all}
use Rattle.std.specs.Prelude.{Bool, Option, true, false}
use Rattle.razor_limits.specs.declared.failure.Failed.{Failed}
use Rattle.razor_base.specs.Headline.Outcomes.{CallOutcome, Extends}
use Rattle.razor_base.specs.Headline.Readings.{Reading}
use Rattle.razor_base.specs.Output.{AreWrites, Writes}
use Rattle.razor_base.specs.Input.{TakesAtMost}
use Rattle.razor_base.specs.Turns.{ArePieces, IsUnfailed, IsWholeTurn}
use Rattle.field_boxes.specs.declared.rule_list.RuleList.{RuleList}
use Rattle.ternary_words.specs.declared.table.Table.{Table}
use Rattle.partition_check.specs.CertificateText.{lines_of}
use Rattle.partition_check.specs.Checking.{begun}
use Rattle.partition_check.specs.Streams.{ReadsWrong}
use Rattle.partition_check.specs.Verdict.{FindsWrong, IsWrong, started}
use Rattle.partition_check.specs.declared.row.Wrong.{Wrong}
use Rattle.agreement_check.specs.Answers.{IsTrueOf}
use Rattle.agreement_check.specs.Verdict.{IsShown, IsValid}
use Rattle.agreement_check.specs.declared.valid.Shown.{Shown}
use Rattle.agreement_check.specs.declared.valid.Shown.TheVariants.{Equal, Differ}
use Rattle.agreement_check.specs.declared.valid.Valid.{Valid}
use Rattle.agreement_proof.specs.Outcome.{IsAnswer}
use Rattle.razor_core.specs.Behind.{IsAnswered}
use Rattle.razor_core.specs.Calls.{MakesCalls}
use Rattle.razor_core.specs.Commands.Check.{IsEndBy, SaysBy, Shows, is_equal, most_checked, shown_text}
use Rattle.razor_core.specs.Meaning.{at_the_end}
use Rattle.razor_core.specs.declared.ending.Ending.{Ending}
use Rattle.razor_core.specs.declared.ending.Ending.TheVariants.{Done, No}
use Rattle.razor_core.specs.declared.ending.Summary.TheVariants.{Nothing}
use Rattle.razor_core.proofs.Calls.{one_turn, over_calls}
use Rattle.razor_core.proofs.CallsOf.{unwritten_calls, wrong_calls}

module _ (kind : Bool) (list : RuleList) (table : Table) (name text : List ℕ) (remaining left : List ℕ → List ℕ) (counts later : List ℕ → ℕ) where
  -- an answer that is said and written ends the check
  pub said_ends : {S : Type 0} {written : S → List CallOutcome} {faults : S → ℕ} {b a : S} {line : List ℕ} (wrote : Result (Unit {0}) Failed) (yes : Bool) (ending : Ending) →
      Writes written faults b a line wrote → SaysBy kind list table text (left name) yes line → IsAnswered yes wrote ending →
      IsEndBy kind list table name text (record { remaining = remaining; read_faults = counts; written = written b; write_faults = faults b })
      (record { remaining = left; read_faults = later; written = written a; write_faults = faults a }) ending
  said_ends {written = written} {faults = faults} {b = b} {a = a} {line = line} (Ok done) true ending writes said is =
      subst (IsEndBy kind list table name text (record { remaining = remaining; read_faults = counts; written = written b; write_faults = faults b }) (record { remaining = left; read_faults = later; written = written a; write_faults = faults a })) (sym is)
      (refl, record { line = line; says = said; has = writes.ok })
  said_ends {written = written} {faults = faults} {b = b} {a = a} {line = line} (Ok done) false ending writes said is =
      subst (IsEndBy kind list table name text (record { remaining = remaining; read_faults = counts; written = written b; write_faults = faults b }) (record { remaining = left; read_faults = later; written = written a; write_faults = faults a })) (sym is)
      (record { line = line; says = said; has = writes.ok })
  said_ends {written = written} {faults = faults} {b = b} {a = a} {line = line} (Err failed) true ending writes said is =
      subst (IsEndBy kind list table name text (record { remaining = remaining; read_faults = counts; written = written b; write_faults = faults b }) (record { remaining = left; read_faults = later; written = written a; write_faults = faults a })) (sym is)
      (writes.failed, true, record { line = line; says = said; has = writes.err })
  said_ends {written = written} {faults = faults} {b = b} {a = a} {line = line} (Err failed) false ending writes said is =
      subst (IsEndBy kind list table name text (record { remaining = remaining; read_faults = counts; written = written b; write_faults = faults b }) (record { remaining = left; read_faults = later; written = written a; write_faults = faults a })) (sym is)
      (writes.failed, false, record { line = line; says = said; has = writes.err })

-- what a valid proof shows is said
pub shown_said : (list : RuleList) (table : Table) (text left : List ℕ) (v : Valid) (yes : Bool) → is_equal v.shown ≡ yes → Shows list table text left v → SaysBy true list table text left yes (shown_text list table v)
shown_said list table text left v true is shows = (v, shows, is, refl)
shown_said list table text left v false is shows = inl (v, shows, is, refl)

pub unfailed_whole : (name : List ℕ) (old after : List Reading) → Extends old after (IsWholeTurn name) → Extends old after (IsUnfailed name)
unfailed_whole name old after t = (t.0, t.1, inl t.2)

-- the reads and writes of a check: where the answer is yes, the text was read to its end
pub said_calls : (name : List ℕ) (wrote : Result (Unit {0}) Failed) (yes : Bool) (ending : Ending) (old after : List Reading) (first last : List CallOutcome) → IsAnswered yes wrote ending →
    (yes ≡ true → Extends old after (IsWholeTurn name)) → Extends old after (IsUnfailed name) → Extends first last (AreWrites wrote) → MakesCalls at_the_end (name ∷ []) old after first last ending
said_calls name (Ok done) true ending old after first last is whole turn tries =
    subst (MakesCalls at_the_end (name ∷ []) old after first last) (sym is) (over_calls at_the_end (name ∷ []) (Done Nothing) old after first last (one_turn name old after (whole refl)) tries)
said_calls name (Ok done) false ending old after first last is whole turn tries =
    subst (MakesCalls at_the_end (name ∷ []) old after first last) (sym is) (wrong_calls name old after first last turn tries)
said_calls name (Err failed) true ending old after first last is whole turn tries =
    subst (MakesCalls at_the_end (name ∷ []) old after first last) (sym is) (unwritten_calls name old after first last turn tries)
said_calls name (Err failed) false ending old after first last is whole turn tries =
    subst (MakesCalls at_the_end (name ∷ []) old after first last) (sym is) (unwritten_calls name old after first last turn tries)

-- and where it broke off, none failed
pub unfailed_pieces : (name : List ℕ) (old after : List Reading) → Extends old after (ArePieces name) → Extends old after (IsUnfailed name)
unfailed_pieces name old after t = (t.0, t.1, inr t.2)

-- at most so much was taken of a front and of what followed it
pub near_behind : (front before after : List ℕ) (most limit : ℕ) → TakesAtMost before after most → length front + most ≤ limit → TakesAtMost (front ++ before) after limit
near_behind front before after most limit near few = (
  front ++ near.0,
  ap (λ (rest : List ℕ). front ++ rest) near.1 ∙ sym (append_assoc front near.0 after),
  let short = near.2 in omega (arith, few, short, length-append front near.0),
)

-- a certificate that is within the limit is wrong as its whole text is
pub wrong_within : (list : RuleList) (table : Table) (text : List ℕ) (w : Wrong) → length text ≤ most_checked → IsWrong (begun list table) text w → ReadsWrong (begun list table) most_checked text w
wrong_within list table text w few (inl h) = inl (subst (λ (t : List ℕ). FindsWrong (started (begun list table)) (lines_of t).whole w) (sym (take_all most_checked text few)) h)
wrong_within list table text w few (inr h) = inr (few, h)

-- what a valid proof shows is what list and table have to do with one another
shown_answer : (list : RuleList) (table : Table) (before : Option (List ℕ)) (shown : Shown) → IsShown list table before shown → IsTrueOf list table shown → IsAnswer list table shown
shown_answer list table before Equal names is = is
shown_answer list table before (Differ d) names is = (is, record { left = names.1; right = names.2 })

pub valid_answer : (list : RuleList) (table : Table) (text : List ℕ) (v : Valid) → IsValid list table text v → IsTrueOf list table v.shown → IsAnswer list table v.shown
valid_answer list table text v h is = shown_answer list table h.taken.before v.shown h.shown is

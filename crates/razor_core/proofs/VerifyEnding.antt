-- How a command ends that compares a list and a table, or writes a proof of what they have to do with one another.
use Rattle.std.proofs.Common.{◌≡◌, ℕ, List, [], ◌∷◌, inl, inr, refl}
use Rattle.std.specs.Prelude.{true}
use Rattle.field_boxes.specs.declared.rule_list.RuleList.{RuleList}
use Rattle.ternary_words.specs.declared.table.Table.{Table}
use Rattle.agreement_check.specs.Verdict.{IsValid}
use Rattle.agreement_check.specs.Answers.{IsTrueOf}
use Rattle.agreement_check.specs.declared.valid.Shown.{Shown}
use Rattle.agreement_check.specs.declared.valid.Shown.TheVariants.{Equal, Differ}
use Rattle.agreement_check.specs.declared.valid.Valid.{Valid}
use Rattle.agreement_proof.specs.Outcome.{IsAnswer}
use Rattle.razor_core.specs.Commands.Check.{is_equal, is_proof}
use Rattle.razor_core.specs.Commands.Prove.{IsProofOf, proving}
use Rattle.razor_core.specs.Commands.Verify.{answer_line, verifying}
use Rattle.razor_core.specs.Inputs.{Value}
use Rattle.razor_core.specs.Taking.{table_value_of, value_of}
use Rattle.razor_core.proofs.AnswerEnding.{answer_of}

module _ (one two : List ℕ) (list : RuleList) (table : Table) where
  abbrev values : List Value
  values = value_of list ∷ table_value_of table ∷ []

  -- what is answered is what `verify` defines
  pub verifies : (shown : Shown) → IsAnswer list table shown → (verifying one two).gives values (answer_of (is_equal shown) (answer_line list table shown))
  verifies Equal is = inl (is, refl)
  verifies (Differ d) is = inr (d.header.values, record { in_fields = is.0.in_fields; differ = is.0.differ; least = is.0.least }, refl)

  -- and a text that shows it what `prove` defines
  pub proves : (text : List ℕ) (shown : Shown) → IsProofOf list table text shown → (proving one two).gives values (answer_of (is_equal shown) text)
  proves text shown is = record {
    checks = record { list = list; table = table; rules_are = refl; entries_are = refl };
    shown = shown;
    proof = is;
    answers = refl;
    silent = refl;
  }

-- what is so of each valid proof
abbrev ShowTruth : Type 0
ShowTruth = (list : RuleList) (table : Table) (text : List ℕ) (v : Valid) → IsValid list table text v → IsTrueOf list table v.shown

abbrev BeginSo : Type 0
BeginSo = (list : RuleList) (table : Table) (text : List ℕ) (v : Valid) → IsValid list table text v → is_proof text ≡ true

-- a valid text is a proof of what it shows
pub proof_of : (list : RuleList) (table : Table) (text : List ℕ) (v : Valid) → ShowTruth → BeginSo → IsValid list table text v → IsProofOf list table text v.shown
proof_of list table text v truth begin is = record {
  true_of = truth list table text v is;
  begins = begin list table text v is;
  checked = λ within. (v, record { valid = record { valid = is; within = within; whole = refl }; true_of = truth list table text v is }, refl);
}

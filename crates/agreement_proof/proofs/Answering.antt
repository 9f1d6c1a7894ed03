-- What is answered is so.
use Rattle.std.proofs.Common.{ℕ, ◌<◌, List, Option, Some, None, Result, Ok, Err, IfOk, IfSome}
use Rattle.field_boxes.specs.declared.header.Header.{Header}
use Rattle.field_boxes.specs.declared.rule_list.RuleList.{RuleList}
use Rattle.field_boxes.specs.Headline.Fields.{IsHeader}
use Rattle.ternary_words.specs.declared.table.Table.{Table}
use Rattle.ternary_words.specs.Word.{key_of}
use Rattle.agreement_check.specs.declared.valid.Shown.{Shown}
use Rattle.agreement_check.specs.declared.valid.Shown.TheVariants.{Equal, Differ}
use Rattle.agreement_check.specs.declared.valid.Valid.{Valid}
use Rattle.agreement_check.specs.Answers.{IsTrueOf}
use Rattle.agreement_check.specs.Verdict.{IsShown, IsValid}
use Rattle.agreement_proof.specs.Outcome.{IsAnswer}

shown_answer : (list : RuleList) (table : Table) (before : Option (List ℕ)) (shown : Shown) → IsShown list table before shown → IsTrueOf list table shown → IsAnswer list table shown
shown_answer list table before Equal is t = t
shown_answer list table before (Differ d) is t = (t, record { left = is.1; right = is.2 })

-- what a valid text shows
pub valid-answer : (list : RuleList) (table : Table) (text : List ℕ) (v : Valid) → IsValid list table text v → IsTrueOf list table v.shown → IsAnswer list table v.shown
valid-answer list table text v is t = shown_answer list table is.taken.before v.shown is.shown t

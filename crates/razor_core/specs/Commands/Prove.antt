-- What `prove` defines: the text of a proof that a list and a table decide every header alike, or of the least one that they don't.
use Rattle.std.specs.Prelude.{◌≡◌, ℕ, ◌≤◌, Bool, true, false, List, [], ◌∷◌, length, Ok}
use Rattle.field_boxes.specs.Headline.FilterList.{FilterList}
use Rattle.field_boxes.specs.declared.rule_list.RuleList.{RuleList}
use Rattle.filter_reader.specs.Headline.FilterList.{list_of}
use Rattle.table_text.specs.Reading.{table_in_text}
use Rattle.ternary_words.specs.Headline.Table.{Table}
use Rattle.ternary_words.specs.declared.table.Table as code
use Rattle.agreement_check.specs.Answers.{IsTrueOf}
use Rattle.agreement_check.specs.declared.valid.Shown.{Shown}
use Rattle.agreement_check.specs.declared.valid.Shown.TheVariants.{Equal}
use Rattle.agreement_check.specs.declared.valid.Valid.{Valid}
use Rattle.razor_core.specs.Commands.Check.{Checks, Shows, is_equal, is_proof, most_checked}
use Rattle.razor_core.specs.Inputs.{Value, list_input, list_value, table_input, table_value}
use Rattle.razor_core.specs.Meaning.{Meaning, usual}
use Rattle.razor_core.specs.Outcome.{Outcome}

-- the text is a proof that shows this, and that is so: `check` says it of the text, if it has at most as many bytes as are checked
pub record IsProofOf (list : RuleList) (table : code.Table) (text : List ℕ) (shown : Shown) : Type 0 where
  pub true_of : IsTrueOf list table shown
  pub begins : is_proof text ≡ true
  pub checked : length text ≤ most_checked → (v : Valid) × Shows list table text [] v × (v.shown ≡ shown)

-- the text shows what list and table have to do with one another that have these rules and entries, and the answer is yes where they decide alike
pub record Proves (rules : FilterList) (entries : Table) (outcome : Outcome) : Type 0 where
  pub checks : Checks rules entries
  pub shown : Shown
  pub proof : IsProofOf checks.list checks.table outcome.text shown
  pub answers : outcome.yes ≡ is_equal shown
  pub silent : outcome.line ≡ []

abbrev of_both : List Value → Outcome → Type 0
of_both (list_value rules ∷ table_value entries ∷ values) outcome = Proves rules entries outcome
of_both values outcome = ⊥

abbrev pub proving : List ℕ → List ℕ → Meaning
proving list table = record (usual (list_input list ∷ table_input table ∷ []) of_both) { may_say_no = Unit {0} }

-- the output is a proof that list and table decide every header alike
pub record IsProven (list_bytes table_bytes written : List ℕ) : Type 0 where
  pub rules : FilterList
  pub entries : Table
  pub list_spelled : list_of list_bytes ≡ Ok rules
  pub table_spelled : table_in_text table_bytes ≡ Ok entries
  pub checks : Checks rules entries
  pub proof : IsProofOf checks.list checks.table written Equal

-- What `verify` defines: a list and a table, header by header, and how what they come to is written.
use Rattle.std.specs.Prelude.{◌≡◌, ℕ, List, [], ◌∷◌, ◌⊎◌, true}
use Rattle.field_boxes.specs.Alike.{AreAlike, source_of}
use Rattle.field_boxes.specs.Headline.FilterList.{FilterList}
use Rattle.field_boxes.specs.declared.rule_list.RuleList.{RuleList}
use Rattle.ternary_words.specs.Headline.Table.{Table, answer}
use Rattle.ternary_words.specs.declared.table.Table as code
use Rattle.field_boxes.specs.Lists.{name_decided}
use Rattle.partition_check.specs.Agreement.{name_answered}
use Rattle.agreement_check.specs.declared.valid.Shown.{Shown}
use Rattle.agreement_check.specs.declared.valid.Shown.TheVariants.{Equal, Differ}
use Rattle.razor_core.specs.Commands.Equiv.{IsDifference, differ_line, equal_line}
use Rattle.razor_core.specs.Inputs.{Value, list_input, list_value, table_input, table_value}
use Rattle.razor_core.specs.Meaning.{Meaning, usual}
use Rattle.razor_core.specs.Outcome.{Outcome}

-- list and table give every header the same name, or else this is the least header to which they give others, with both; the words of the
-- table may be any
abbrev pub Verifies : FilterList → Table → Outcome → Type 0
Verifies rules entries outcome =
    (AreAlike (source_of rules.rules) (answer entries.entries) × (outcome ≡ record { yes = true; text = equal_line; line = [] }))
    ⊎ IsDifference (source_of rules.rules) (answer entries.entries) outcome

-- the line of an answer
abbrev pub answer_line : RuleList → code.Table → Shown → List ℕ
answer_line list table Equal = equal_line
answer_line list table (Differ d) = differ_line d.header.values (name_decided list d.header.values) (name_answered table d.header.values)

abbrev of_both : List Value → Outcome → Type 0
of_both (list_value rules ∷ table_value entries ∷ values) outcome = Verifies rules entries outcome
of_both values outcome = ⊥

abbrev pub verifying : List ℕ → List ℕ → Meaning
verifying list table = record (usual (list_input list ∷ table_input table ∷ []) of_both) { may_say_no = Unit {0} }

-- What is answered of a list and a table.
use Rattle.std.specs.Prelude.{◌≡◌, ℕ, ◌<◌, List, Option, option_map}
use Rattle.field_boxes.specs.Alike.{IsFirstDifference}
use Rattle.field_boxes.specs.Headline.Fields.{IsHeader}
use Rattle.field_boxes.specs.Lists.{name_decided}
use Rattle.field_boxes.specs.declared.header.Header.{Header}
use Rattle.field_boxes.specs.declared.rule_list.RuleList.{RuleList}
use Rattle.ternary_words.specs.declared.table.Table.{Table}
use Rattle.ternary_words.specs.Word.{key_of}
use Rattle.partition_check.specs.Agreement.{Agree, AgreeOn, name_answered}
use Rattle.agreement_check.specs.declared.valid.Shown.{Shown}
use Rattle.agreement_check.specs.declared.valid.Shown.TheVariants.{Equal, Differ}
use Rattle.agreement_check.specs.Covers.{Sides}
use Rattle.agreement_check.specs.Standing.{IsDifferenceOf}

-- they give every header the same name, or this is the least header to which they give other names, and these are the names
abbrev pub IsAnswer : RuleList → Table → Shown → Type 0
IsAnswer list table Equal = Agree list table
IsAnswer list table (Differ d) = IsFirstDifference (name_decided list) (name_answered table) d.header.values × IsDifferenceOf list table d

abbrev pub values_of : Option Header → Option (List ℕ)
values_of header = option_map (λ (h : Header). h.values) header

-- they give each header below the bound the same name
abbrev pub AgreeBelow : Sides → Type 0
AgreeBelow s = (header : List ℕ) → IsHeader header → key_of header < s.bound → AgreeOn s.list s.table header

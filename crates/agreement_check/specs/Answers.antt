-- What a valid proof says of list and table.
use Rattle.field_boxes.specs.Alike.{IsFirstDifference}
use Rattle.field_boxes.specs.Lists.{name_decided}
use Rattle.field_boxes.specs.declared.rule_list.RuleList.{RuleList}
use Rattle.ternary_words.specs.declared.table.Table.{Table}
use Rattle.partition_check.specs.Agreement.{Agree, name_answered}
use Rattle.agreement_check.specs.declared.valid.Shown.{Shown}
use Rattle.agreement_check.specs.declared.valid.Shown.TheVariants.{Equal, Differ}

-- they give every header the same name, or this is the least header to which they give other names
abbrev pub IsTrueOf : RuleList → Table → Shown → Type 0
IsTrueOf list table Equal = Agree list table
IsTrueOf list table (Differ d) = IsFirstDifference (name_decided list) (name_answered table) d.header.values

-- The list of the code as a list of rules with names.
use Rattle.std.specs.Prelude.{ℕ, List, Option}
use Rattle.field_boxes.specs.declared.rule_list.RuleList.{RuleList}
use Rattle.field_boxes.specs.Headline.FilterList.{FilterList}
use Rattle.field_boxes.specs.Headline.Classifier.{source}
use Rattle.field_boxes.specs.Headline.Fields.{stated}
use Rattle.field_boxes.specs.NamedRules.{named_rules}

-- the rules with the names of their decisions, and the count of flagged ones
abbrev pub filter_list : RuleList → FilterList
filter_list list = record { rules = named_rules list.names list.rules.items; flagged = list.flagged }

-- the name that the list decides on the header, or none
abbrev pub name_decided : RuleList → List ℕ → Option (List ℕ)
name_decided list header = source stated header (filter_list list).rules

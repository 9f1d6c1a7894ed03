-- What stays true of a list while it is read.
use Rattle.std.specs.Prelude.{◌≡◌, ◌≤◌, ℕ, List, length, All}
use Rattle.razor_limits.specs.declared.limits.TheConstants.{MOST_RULES}
use Rattle.field_boxes.specs.declared.rule.Rule as code
use Rattle.field_boxes.specs.FilterRules.{IsFilterRule}
use Rattle.field_boxes.specs.NamedRules.{IsNumberedBy, named_rules}
use Rattle.filter_reader.specs.FirstSeen.{first_seen}
use Rattle.filter_reader.specs.OwnNames.{HaveNames}

-- there are at most so many rules, each is a filter rule, numbered by the names in the order in which they are first seen
pub record IsListSoFar (names : List (List ℕ)) (rules : List code.Rule) (flagged : ℕ) : Type 0 where
  pub few : length rules ≤ MOST_RULES
  pub fewer_names : length names ≤ length rules
  pub fewer_flags : flagged ≤ length rules
  pub spelled : All IsFilterRule rules
  pub numbered : All (IsNumberedBy names) rules
  pub seen : names ≡ first_seen (named_rules names rules)
  pub named : HaveNames 1 (named_rules names rules)

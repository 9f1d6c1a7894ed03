-- The list of the code that a seed gives.
use Rattle.std.specs.Prelude.{◌≡◌, ℕ}
use Rattle.filter_reader.specs.FirstSeen.{first_seen}
use Rattle.field_boxes.specs.Lists.{filter_list}
use Rattle.filter_reader.specs.OwnNames.{HaveNames}
use Rattle.field_boxes.specs.declared.rule_list.RuleList.{RuleList}
use Rattle.list_generator.specs.DrawnRules.{generated}

-- the sets, the names and no flags of that list, its names numbered as they are first seen
pub record IsGenerated (seed count : ℕ) (list : RuleList) : Type 0 where
  pub spelled : filter_list list ≡ generated seed count
  pub names : list.names ≡ first_seen (generated seed count).rules
  pub named : HaveNames 1 (filter_list list).rules

-- Lists whose short tables are wanted.
use Rattle.std.specs.Prelude.{◌≡◌, ◌≤◌, ℕ, List, All, length}
use Rattle.field_boxes.specs.NamedRules.{IsNumberedBy, named_rules}
use Rattle.field_boxes.specs.declared.rule.Rule as rule
use Rattle.razor_limits.specs.declared.limits.TheConstants.{MOST_RULES}
use Rattle.ternary_words.specs.Views.{table_of}
use Rattle.ternary_words.specs.declared.table.Table as table
use Rattle.rule_shortening.specs.Shortened.{IsShortTable}

-- few rules, which are numbered by their names
pub record IsTask (names : List (List ℕ)) (rules : List rule.Rule) : Type 0 where
  pub few : length rules ≤ MOST_RULES
  pub numbered : All (IsNumberedBy names) rules

-- the table is a short one of the rules, with their names
pub record IsTableFor (names : List (List ℕ)) (rules : List rule.Rule) (limit width : ℕ) (made : table.Table) : Type 0 where
  pub short : IsShortTable (named_rules names rules) limit width (table_of made)
  pub named : made.names ≡ names

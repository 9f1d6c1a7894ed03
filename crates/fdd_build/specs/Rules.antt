-- What rule lists say of a header.
use Rattle.std.specs.Prelude.{ℕ, Bool, ◌&&◌, nat_eq, List, map, unwrap_or}
use Rattle.field_boxes.specs.declared.rule.Rule as code
use Rattle.field_boxes.specs.Headline.Classifier.{matches, source}
use Rattle.field_boxes.specs.Rules.{rule_of}

-- the decision of the first rule that matches the values of these fields, or 0
abbrev pub decided : List ℕ → List code.Rule → List ℕ → ℕ
decided fields rules values = unwrap_or (source fields values (map rule_of rules)) 0

-- whether the rule matches the values of these fields and decides 0
abbrev pub hides : List ℕ → code.Rule → List ℕ → Bool
hides fields rule values = nat_eq rule.decision 0 && matches fields values (rule_of rule)

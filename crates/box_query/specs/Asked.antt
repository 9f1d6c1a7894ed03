-- What rules decide of a header, and what stands for it in a query.
use Rattle.std.specs.Prelude.{ℕ, Bool, nat_eq, List, map, Option, Some, None, if◌then◌else◌}
use Rattle.std.specs.Option.{option_or}
use Rattle.field_boxes.specs.declared.rule.Rule as code
use Rattle.field_boxes.specs.Headline.Classifier.{source}
use Rattle.field_boxes.specs.Headline.Fields.{stated}
use Rattle.field_boxes.specs.Rules.{rule_of}

-- 1 for the wanted decision, 2 for any other
abbrev pub label : ℕ → ℕ → ℕ
label wanted decision = if nat_eq decision wanted then 1 else 2

-- the number that the first rule that matches decides, none where none does
abbrev pub number_decided : List code.Rule → List ℕ → Option ℕ
number_decided rules header = source stated header (map rule_of rules)

-- what is decided where one more rule stands behind the others, which may match
abbrev pub then_decided : Option ℕ → Bool → ℕ → Option ℕ
then_decided before matched decision = option_or before (if matched then Some decision else None)

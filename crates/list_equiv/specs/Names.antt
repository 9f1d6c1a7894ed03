-- The names that rules decide by their numbers, and numbers that the names of two sides have in common.
use Rattle.std.specs.Prelude.{ℕ, ◌+◌, ◌≤◌, List, length, All, Option, Some, None}
use Rattle.field_boxes.specs.declared.rule.Rule as code
use Rattle.field_boxes.specs.Headline.Classifier.{Rule}
use Rattle.field_boxes.specs.Headline.Fields.{stated}
use Rattle.field_boxes.specs.Headline.Names.{text_of}
use Rattle.field_boxes.specs.Names.{name_at, number_of}
use Rattle.field_boxes.specs.Rules.{sets_of}
use Rattle.fdd_build.specs.Rules.{decided}

-- each rule decides the number of one of the names, or 0
abbrev pub AreWithin : List (List ℕ) → List code.Rule → Type 0
AreWithin names rules = All (λ (r : code.Rule). r.decision ≤ length names) rules

-- the name that the rules decide on the header, none for 0
abbrev pub name_of : List (List ℕ) → List code.Rule → List ℕ → Option (List ℕ)
name_of names rules header = name_at names (decided stated rules header)

-- the number that was found, or another one
abbrev pub known_or : ℕ → Option ℕ → ℕ
known_or other None = other
known_or other (Some n) = n

-- one more than the number of the name among others; names that these don't have come behind them, and none has 1
abbrev pub common_number : List (List ℕ) → List (List ℕ) → ℕ → ℕ
common_number names others decision = known_or (length others + decision) (number_of others (text_of (name_at names decision))) + 1

-- the rule, which decides the common number
abbrev pub common_rule : List (List ℕ) → List (List ℕ) → code.Rule → Rule ℕ
common_rule names others r = record { sets = sets_of r; decision = common_number names others r.decision }

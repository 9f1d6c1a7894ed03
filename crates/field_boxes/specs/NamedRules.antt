-- Rules whose decisions are numbers of names.
use Rattle.std.specs.Prelude.{ℕ, ◌<◌, ◌≤◌, List, length, map}
use Rattle.field_boxes.specs.declared.rule.Rule as code
use Rattle.field_boxes.specs.Headline.Classifier.{Rule}
use Rattle.field_boxes.specs.Headline.Names.{text_of}
use Rattle.field_boxes.specs.Names.{name_at}
use Rattle.field_boxes.specs.Rules.{sets_of}

-- the decision is the number of one of the names
abbrev pub IsNumberedBy : List (List ℕ) → code.Rule → Type 0
IsNumberedBy names r = (0 < r.decision) × (r.decision ≤ length names)

-- the rule, with the name of its decision
abbrev pub named_rule : List (List ℕ) → code.Rule → Rule (List ℕ)
named_rule names r = record { sets = sets_of r; decision = text_of (name_at names r.decision) }

abbrev pub named_rules : List (List ℕ) → List code.Rule → List (Rule (List ℕ))
named_rules names rules = map (named_rule names) rules

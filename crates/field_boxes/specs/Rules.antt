-- The rules of the code as rules of the classifier model.
use Rattle.std.specs.Prelude.{List, position, Option, ℕ, [], ◌∷◌, slice_index_or}
use Rattle.field_boxes.specs.declared.rule.Rule as code
use Rattle.field_boxes.specs.Headline.Classifier.{Interval, Rule, matches}
use Rattle.field_boxes.specs.Headline.Fields.{stated}
use Rattle.field_boxes.specs.Spans.{interval_of}

-- the sets of a rule of the code: one interval for each address and the protocol, a union for each port
abbrev pub sets_of : code.Rule → List (List Interval)
sets_of r = (interval_of r.source ∷ []) ∷ (interval_of r.destination ∷ []) ∷ slice_index_or r.ports 0 [] ∷ slice_index_or r.ports 1 [] ∷ (interval_of r.protocol ∷ []) ∷ []

-- a rule of the code, with these sets
abbrev pub rule_of : code.Rule → Rule ℕ
rule_of r = record { sets = sets_of r; decision = r.decision }

-- the place of the first rule that matches the header
abbrev pub first_match : List ℕ → List code.Rule → Option ℕ
first_match values rules = position (λ r. matches stated values (rule_of r)) rules

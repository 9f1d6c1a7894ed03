-- Names in the order in which they are first seen.
use Rattle.std.specs.Prelude.{ℕ, List, [], fold}
use Rattle.field_boxes.specs.Headline.Classifier.{Rule}
use Rattle.field_boxes.specs.Names.{with_name}

-- the names of the decisions of rules, each where it is first seen
abbrev pub first_seen : List (Rule (List ℕ)) → List (List ℕ)
first_seen rules = fold (λ names rule. with_name names rule.decision) [] rules

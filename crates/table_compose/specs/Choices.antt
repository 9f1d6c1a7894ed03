-- Parts of what a plan says: which pair a value gets, what the pairs cost together, and which rule lists are alike.
use Rattle.std.specs.Prelude.{ℕ, List, Option, find, sum_by}
use Rattle.field_boxes.specs.Alike.{AreAlikeOver}
use Rattle.field_boxes.specs.Headline.Prefix.{prefix_holds}
use Rattle.field_boxes.specs.Headline.Classifier.{Rule, source}
use Rattle.table_compose.specs.Headline.LeastCost.{Choice}

-- the two lists decide alike at all values of these fields
abbrev pub AreAlike : {A : Type 0} → List ℕ → List (Rule A) → List (Rule A) → Type 0
AreAlike fields R S = AreAlikeOver fields (λ values. source fields values R) (λ values. source fields values S)

-- the first pair whose prefix holds the value
abbrev pub first_choice : ℕ → List Choice → ℕ → Option Choice
first_choice w plan v = find (λ c. prefix_holds w c.prefix v) plan

-- what the pairs cost together
abbrev pub plan_cost : List Choice → ℕ
plan_cost plan = sum_by (λ c. c.cost) plan

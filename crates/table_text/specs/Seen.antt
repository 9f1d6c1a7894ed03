-- The names of decisions in the order in which entries have them.
use Rattle.std.specs.Prelude.{ℕ, List, [], Option, Some, None, fold}
use Rattle.field_boxes.specs.Names.{with_name}
use Rattle.ternary_words.specs.Headline.Table.{Entry}

-- the names after an entry's decision is seen
abbrev pub with_decided : List (List ℕ) → Option (List ℕ) → List (List ℕ)
with_decided names None = names
with_decided names (Some name) = with_name names name

-- the names of the decisions of entries, in first-seen order
abbrev pub names_seen : List Entry → List (List ℕ)
names_seen entries = fold (λ names e. with_decided names e.decision) [] entries

-- The short table of a rule list, and why there is none.
use Rattle.std.specs.Prelude.{◌≡◌, ℕ, ◌<◌, ◌≤◌, min, List, All, length}
use Rattle.field_boxes.specs.Alike.{AreAlike, IsTight, source_of}
use Rattle.field_boxes.specs.Headline.Classifier.{Rule}
use Rattle.ternary_words.specs.Prefixes.{IsPrefixInEach}
use Rattle.ternary_words.specs.Headline.Table.{Table, answer}
use Rattle.rule_expansion.specs.Expansion.{expanded_count}
use Rattle.table_compose.specs.Headline.LeastCost.{IsLeastCost}
use Rattle.rule_shortening.specs.declared.refusal.ShortenError.{ShortenError}
use Rattle.rule_shortening.specs.declared.refusal.ShortenError.TheVariants.{TooMany, Memory}

-- the table decides every header as the rules do by words that are prefixes in each field; none of its entries can go, they are
-- at most so many, and at most as many as the direct expansion of the rules has
pub record IsShortTable (rules : List (Rule (List ℕ))) (limit width : ℕ) (table : Table) : Type 0 where
  pub slot : table.slot ≡ width
  pub composed : table.composed ≡ length table.entries
  pub few : length table.entries ≤ limit
  pub within : length table.entries ≤ expanded_count rules
  pub answers : AreAlike (answer table.entries) (source_of rules)
  pub prefixes : All (λ e. IsPrefixInEach e.word) table.entries
  pub tight : IsTight answer table.entries

-- the table has at most as many entries as the rules cost field by field in the order
abbrev pub IsWithinCost : List ℕ → List (Rule (List ℕ)) → Table → Type 0
IsWithinCost order rules table = (cost : ℕ) → IsLeastCost order rules cost → length table.entries ≤ cost

-- a short table that also has at most as many entries as the rules cost field by field in the order
pub record IsShortTableIn (order : List ℕ) (rules : List (Rule (List ℕ))) (limit width : ℕ) (table : Table) : Type 0 where
  pub short : IsShortTable rules limit width table
  pub cheap : IsWithinCost order rules table

-- the direct expansion has more entries than the limit, or memory was refused
abbrev pub IsRefused : List (Rule (List ℕ)) → ℕ → ShortenError → Type 0
IsRefused rules limit Memory = Unit {0}
IsRefused rules limit (TooMany needed most) = (needed ≡ expanded_count rules) × (most ≡ limit) × (limit < needed)

-- so many entries are the lesser of those of the direct expansion and of the least cost in the order
abbrev pub IsLesser : List ℕ → List (Rule (List ℕ)) → ℕ → Type 0
IsLesser order rules needed = (cost : ℕ) × IsLeastCost order rules cost × (needed ≡ min (expanded_count rules) cost)

-- both have more entries than the limit, or memory was refused
abbrev pub IsRefusedIn : List ℕ → List (Rule (List ℕ)) → ℕ → ShortenError → Type 0
IsRefusedIn order rules limit Memory = Unit {0}
IsRefusedIn order rules limit (TooMany needed most) = IsLesser order rules needed × (most ≡ limit) × (limit < needed)

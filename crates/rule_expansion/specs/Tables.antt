-- The table of an expansion, and why there is none.
use Rattle.std.specs.Prelude.{◌≡◌, ℕ, ◌<◌, List}
use Rattle.field_boxes.specs.Headline.Classifier.{Rule, source}
use Rattle.field_boxes.specs.Headline.Fields.{IsHeader, stated}
use Rattle.ternary_words.specs.Headline.Table.{Table, answer}
use Rattle.rule_expansion.specs.declared.expanding.ExpandError.{ExpandError}
use Rattle.rule_expansion.specs.declared.expanding.ExpandError.TheVariants.{TooMany, Memory}
use Rattle.rule_expansion.specs.Expansion.{expansion, expanded_count}

-- the table is the expansion of the rules, says how many entries that are, and decides every header as the rules do
pub record IsExpansion (rules : List (Rule (List ℕ))) (width : ℕ) (table : Table) : Type 0 where
  pub slot : table.slot ≡ width
  pub composed : table.composed ≡ expanded_count rules
  pub entries : table.entries ≡ expansion rules
  pub answers : (header : List ℕ) → IsHeader header → answer table.entries header ≡ source stated header rules

-- more entries are needed than the limit, or memory was refused
abbrev pub IsRefused : List (Rule (List ℕ)) → ℕ → ExpandError → Type 0
IsRefused rules limit Memory = Unit {0}
IsRefused rules limit (TooMany needed most) = (needed ≡ expanded_count rules) × (most ≡ limit) × (limit < needed)

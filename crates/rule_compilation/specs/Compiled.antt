-- The compiled table of a rule list, and why there is none.
use Rattle.std.specs.Prelude.{◌≡◌, ℕ, ◌<◌, ◌≤◌, List, All, length}
use Rattle.field_boxes.specs.Alike.{AreAlike, IsTight, source_of}
use Rattle.field_boxes.specs.Headline.Classifier.{Rule}
use Rattle.field_boxes.specs.Headline.Fields.{stated}
use Rattle.ternary_words.specs.Prefixes.{IsPrefixInEach}
use Rattle.ternary_words.specs.Headline.Table.{Table, answer}
use Rattle.table_compose.specs.Headline.LeastCost.{IsLeastCost}
use Rattle.table_compose.specs.declared.composition.ComposeError.{ComposeError}
use Rattle.table_compose.specs.declared.composition.ComposeError.TheVariants.{TooMany, Memory}
use Rattle.rule_compilation.specs.Pass.{IsKept}

-- the table decides every header as the rules do by words that are prefixes in each field, and says their field-by-field
-- least cost in the order of the fields; its entries are what a pass keeps of a table of so many entries that is composed
-- in the order, and of these none can go
pub record IsCompiledIn (order : List ℕ) (rules : List (Rule (List ℕ))) (width : ℕ) (table : Table) : Type 0 where
  pub slot : table.slot ≡ width
  pub composed : IsLeastCost order rules table.composed
  pub few : length table.entries ≤ table.composed
  pub answers : AreAlike (answer table.entries) (source_of rules)
  pub prefixes : All (λ e. IsPrefixInEach e.word) table.entries
  pub pass : IsKept order rules table.composed table.entries
  pub tight : IsTight answer table.entries

-- the same in the stated order
abbrev pub IsCompiled : List (Rule (List ℕ)) → ℕ → Table → Type 0
IsCompiled rules width table = IsCompiledIn stated rules width table

-- the least cost in the order is more than the limit, or memory was refused
abbrev pub IsRefusedIn : List ℕ → List (Rule (List ℕ)) → ℕ → ComposeError → Type 0
IsRefusedIn order rules limit Memory = Unit {0}
IsRefusedIn order rules limit (TooMany needed most) = IsLeastCost order rules needed × (most ≡ limit) × (limit < needed)

-- the same in the stated order
abbrev pub IsRefused : List (Rule (List ℕ)) → ℕ → ComposeError → Type 0
IsRefused rules limit error = IsRefusedIn stated rules limit error

-- Entries with the numbers of their decisions, as a table of the names.
use Rattle.std.specs.Prelude.{◌≡◌, ℕ, ◌≤◌, List, [], length, map, Some}
use Rattle.field_boxes.specs.Alike.{AreAlike, IsTight, source_of}
use Rattle.field_boxes.specs.Headline.Classifier.{Rule, source}
use Rattle.field_boxes.specs.Headline.Fields.{IsHeader, stated}
use Rattle.field_boxes.specs.Names.{name_at}
use Rattle.ternary_words.specs.declared.entry.Entry as code
use Rattle.ternary_words.specs.Limits.{AreNumbered}
use Rattle.ternary_words.specs.Headline.Table.{answer}
use Rattle.ternary_words.specs.Views.{entry_of}
use Rattle.table_compose.specs.Composed.{decided}
use Rattle.table_compose.specs.Headline.LeastCost.{IsLeastCost}
use Rattle.ternary_words.specs.Entries.{ArePrefixes, answer as number_answer}
use Rattle.redundancy_laws.specs.Pass.{Keeps}
use Rattle.rule_compilation.specs.Pass.{AreComposedOf}

-- the entries are the table of the rules' diagram in the order, as many as the rules' least cost, with words that are prefixes
-- in each field and decisions that are numbers of these names, or 0; every header matches one, and the first that it matches
-- decides as the rules do
pub record AreEntriesOf (order : List ℕ) (names : List (List ℕ)) (rules : List (Rule (List ℕ))) (entries : List code.Entry) : Type 0 where
  pub composed : AreComposedOf order names rules entries
  pub least : IsLeastCost order rules (length entries)
  pub prefixes : ArePrefixes entries
  pub numbered : AreNumbered (length names) entries
  pub decides : (header : List ℕ) → IsHeader header → (n : ℕ) × (decided entries header ≡ Some n) × (name_at names n ≡ source stated header rules)

-- the entries decide every header as the rules do, by these names; they are what a pass keeps of so many entries that are
-- the table of the rules' diagram in the order, as many as the rules' least cost
pub record AreTightOf (order : List ℕ) (names : List (List ℕ)) (rules : List (Rule (List ℕ))) (composed : ℕ) (entries : List code.Entry) : Type 0 where
  pub least : IsLeastCost order rules composed
  pub few : length entries ≤ composed
  pub numbered : AreNumbered (length names) entries
  pub answers : AreAlike (answer (map (entry_of names) entries)) (source_of rules)
  pub prefixes : ArePrefixes entries
  pub all : List code.Entry
  pub made : AreComposedOf order names rules all
  pub many : length all ≡ composed
  pub pass : Keeps [] all entries
  pub tight : IsTight number_answer entries

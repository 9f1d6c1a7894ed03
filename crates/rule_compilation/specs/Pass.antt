-- What a pass over a composed table of rules keeps.
use Rattle.std.specs.Prelude.{◌≡◌, ℕ, List, [], length, map}
use Rattle.field_boxes.specs.Headline.Classifier.{Rule, source}
use Rattle.field_boxes.specs.Headline.Fields.{IsHeader, stated}
use Rattle.field_boxes.specs.Names.{AreDistinct, name_at}
use Rattle.ternary_words.specs.declared.entry.Entry as code
use Rattle.ternary_words.specs.Headline.Table.{Entry}
use Rattle.ternary_words.specs.Views.{entry_of}
use Rattle.node_store.specs.Diagram.{Node, answer, level_of}
use Rattle.node_store.specs.Store.{IsStore}
use Rattle.table_compose.specs.Composed.{AreComposed}
use Rattle.field_boxes.specs.Orders.{picked}
use Rattle.redundancy_laws.specs.Pass.{Keeps}

-- the node of a store of diagrams reads the fields in the order and answers every header as the rules decide it, by the
-- numbers of these names
pub record IsDiagramOf (order : List ℕ) (names : List (List ℕ)) (rules : List (Rule (List ℕ))) (nodes : List Node) (root : ℕ) : Type 0 where
  pub store : IsStore nodes
  pub level : level_of nodes root ≡ order
  pub distinct : AreDistinct names
  pub answers : (header : List ℕ) → IsHeader header → name_at names (answer nodes root (picked order header)) ≡ source stated header rules

-- the entries are the table of the rules' diagram, by prefix lists of its nodes
abbrev pub AreComposedOf : List ℕ → List (List ℕ) → List (Rule (List ℕ)) → List code.Entry → Type 0
AreComposedOf order names rules entries = (nodes : List Node) × (root : ℕ) × IsDiagramOf order names rules nodes root × AreComposed nodes order root entries

-- a pass from the last entry to the first keeps these of so many entries that are the table of the rules' diagram
pub record IsKept (order : List ℕ) (rules : List (Rule (List ℕ))) (count : ℕ) (entries : List Entry) : Type 0 where
  pub names : List (List ℕ)
  pub table : List code.Entry
  pub kept : List code.Entry
  pub composed : AreComposedOf order names rules table
  pub many : length table ≡ count
  pub pass : Keeps [] table kept
  pub named : entries ≡ map (entry_of names) kept

-- The rows that the nodes of a diagram compose, by prefix lists of its nodes, and the blocks that are known of nodes.
use Rattle.std.specs.Prelude.{ℕ, List, [], ◌∷◌, map, ◌≡◌, ◌<◌, Some, All, length, slice_get}
use Rattle.std.specs.List.{flat_map}
use Rattle.field_boxes.specs.Headline.Fields.{width}
use Rattle.field_boxes.specs.Prefix.{prefix_interval}
use Rattle.node_store.specs.Diagram.{Node, answer, level_of}
use Rattle.prefix_min.specs.declared.row.PrefixRow.{PrefixRow}
use Rattle.redundancy_laws.specs.Rows.{Row, in_front, last_row}
use Rattle.table_compose.specs.declared.diagram_plans.Plans.{Plans}
use Rattle.table_compose.specs.Plans.{IsMarked}
use Rattle.table_compose.specs.Rows.{rows_at}
use Rattle.redundancy.specs.declared.blocks.Blocks.{Blocks}
use Rattle.redundancy.specs.declared.blocks.node_blocks.Known.{Known}
use Rattle.redundancy.specs.Blocks.{cover_at, rows_of}

-- for each row of a prefix list of the field, in their order, the rows of its child with its prefix in front
abbrev pub in_turn : ℕ → (ℕ → List Row) → List PrefixRow → List Row
in_turn f tables rows = flat_map (λ r. map (in_front (prefix_interval (width f) r.prefix)) (tables r.label)) rows

-- the rows of a node over these fields: those of the children of its list in turn, and one at a leaf
abbrev pub node_rows : List Node → (ℕ → List PrefixRow) → List ℕ → ℕ → List Row
node_rows nodes lists [] id = last_row (answer nodes id []) ∷ []
node_rows nodes lists (f ∷ fields) id = in_turn f (node_rows nodes lists fields) (lists id)

-- the node's plan is known, and over these fields those of all nodes to which its list leads
abbrev pub HasPlans : Plans → List ℕ → ℕ → Type 0
HasPlans plans [] id = IsMarked plans.known.items id
HasPlans plans (f ∷ fields) id = IsMarked plans.known.items id × All (λ r. HasPlans plans fields r.label) (rows_at plans.lists.items id)

-- the number is that of a block with the rows of the node, whose plans are known, at the node's level
pub record IsBlockOf (nodes : List Node) (plans : Plans) (blocks : Blocks) (id number : ℕ) : Type 0 where
  pub planned : HasPlans plans (level_of nodes id) id
  pub within : number < length blocks.blocks.items
  pub level_is : (cover_at blocks.covers.items number).level.now ≡ level_of nodes id
  pub rows_are : rows_of blocks.blocks.items number ≡ node_rows nodes (rows_at plans.lists.items) (level_of nodes id) id

-- the numbers that are kept of nodes are those of their blocks
abbrev pub AreKnown : List Node → Plans → Blocks → Known → Type 0
AreKnown nodes plans blocks known = (id number : ℕ) → slice_get known.numbers.items id ≡ Some (Some number) → IsBlockOf nodes plans blocks id number

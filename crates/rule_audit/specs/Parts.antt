-- The parts of a list: the whole, its halves, the halves of these, each with the diagram of what it decides.
use Rattle.std.specs.Prelude.{◌≡◌, ◌≤◌, ◌/◌, ℕ, nat_eq, List, length, take, drop, if◌then◌else◌}
use Rattle.field_boxes.specs.declared.rule.Rule as code
use Rattle.field_boxes.specs.Headline.Fields.{stated, IsHeader}
use Rattle.node_store.specs.declared.edge.NodeId.{NodeId}
use Rattle.node_store.specs.Diagram.{Node, level_of, answer}
use Rattle.fdd_build.specs.Rules.{decided}
use Rattle.rule_audit.specs.declared.list_parts.ListPart.{ListPart}
use Rattle.rule_audit.specs.declared.list_parts.ListPart.TheVariants.{Alone, Halves'}

-- the upper answer, and the lower one where that is 0
abbrev pub over : ℕ → ℕ → ℕ
over upper lower = if nat_eq upper 0 then lower else upper

-- the diagram of a part
abbrev pub shown_of : ListPart → NodeId
shown_of (Alone shown) = shown
shown_of (Halves' shown p first q second) = shown

-- the node reads the fields in the stated order, and answers what the rules decide
pub record Shows (nodes : List Node) (rules : List code.Rule) (shown : NodeId) : Type 0 where
  pub level : level_of nodes shown.0 ≡ stated
  pub answers : (values : List ℕ) → IsHeader values → answer nodes shown.0 values ≡ decided stated rules values

-- the part's diagrams show the rules, and their halves; a part without halves has one rule at most
abbrev pub IsPart : List Node → List code.Rule → ListPart → Type 0
IsPart nodes rules (Alone shown) = (length rules ≤ 1) × Shows nodes rules shown
IsPart nodes rules (Halves' shown p first q second) =
    Shows nodes rules shown × IsPart nodes (take (length rules / 2) rules) first × IsPart nodes (drop (length rules / 2) rules) second

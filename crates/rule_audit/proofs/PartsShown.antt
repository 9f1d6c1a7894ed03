-- Parts are made of their halves, and stay parts when the store grows.
use Rattle.std.proofs.Common.{◌+◌, ◌/◌, ℕ, suc, List, ◌∙◌, length, take, drop, ◌≡◌, ap, sym, take-append-drop}
use Rattle.field_boxes.specs.declared.rule.Rule as code
use Rattle.field_boxes.specs.Headline.Fields.{stated, IsHeader}
use Rattle.node_store.specs.declared.edge.NodeId.{NodeId}
use Rattle.node_store.specs.Diagram.{Node, answer, level_of}
use Rattle.node_store.specs.Store.{Grows}
use Rattle.node_store.proofs.Growth.{level_kept}
use Rattle.node_store.proofs.Canonical.{in_use}
use Rattle.rule_audit.specs.declared.list_parts.ListPart.{ListPart}
use Rattle.rule_audit.specs.declared.list_parts.ListPart.TheVariants.{Alone, Halves'}
use Rattle.rule_audit.specs.Parts.{IsPart, Shows, over, shown_of}
use Rattle.node_store.proofs.Stated.{is_level}
use Rattle.fdd_build.specs.Rules.{decided}
use Rattle.rule_audit.specs.Labels.{AllDecide}
use Rattle.rule_audit.proofs.Joining.{number_parts}

pub shows_stay : (old new : List Node) (rules : List code.Rule) (shown : NodeId) → Grows old new → Shows old rules shown → Shows new rules shown
shows_stay old new rules shown g s =
    let used = in_use old shown.0 stated (is_level 0) s.level in record {
      level = level_kept old new shown.0 g used ∙ s.level;
      answers = λ values h. g.answers shown.0 values used ∙ s.answers values h;
    }

pub part_stays : (old new : List Node) (rules : List code.Rule) (part : ListPart) → Grows old new → IsPart old rules part → IsPart new rules part
part_stays old new rules (Alone shown) g h = (h.0, shows_stay old new rules shown g h.1)
part_stays old new rules (Halves' shown p first q second) g h = (
  shows_stay old new rules shown g h.0,
  part_stays old new (take (length rules / 2) rules) first g h.1,
  part_stays old new (drop (length rules / 2) rules) second g h.2,
)

-- how many parts are halved in it
abbrev pub part_size : ListPart → ℕ
part_size (Alone shown) = 0
part_size (Halves' shown p first q second) = suc (part_size first + part_size second)

pub part_shows : (nodes : List Node) (rules : List code.Rule) (part : ListPart) → IsPart nodes rules part → Shows nodes rules (shown_of part)
part_shows nodes rules (Alone shown) h = h.1
part_shows nodes rules (Halves' shown p first q second) h = h.0

-- the first half laid over the second shows the whole
pub laid_shows : (old new : List Node) (rules : List code.Rule) (upper lower id : NodeId) → AllDecide (take (length rules / 2) rules) →
    Shows old (take (length rules / 2) rules) upper → Shows old (drop (length rules / 2) rules) lower → level_of new id.0 ≡ stated →
    ((values : List ℕ) → IsHeader values → answer new id.0 values ≡ over (answer old upper.0 values) (answer old lower.0 values)) → Shows new rules id
laid_shows old new rules upper lower id decide up low level answers =
    let n = length rules / 2 in record {
      level = level;
      answers = λ values ok.
          answers values ok
          ∙ ap (λ m. over m (answer old lower.0 values)) (up.answers values ok)
          ∙ ap (λ m. over (decided stated (take n rules) values) m) (low.answers values ok)
          ∙ sym (number_parts values (take n rules) (drop n rules) decide)
          ∙ ap (λ (rs : List code.Rule). decided stated rs values) (take-append-drop n rules);
    }

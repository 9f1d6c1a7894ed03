use Rattle.std.proofs.Common.{◌≡◌, ℕ, List, cond, None, take, option_map}
use Rattle.field_boxes.specs.Boxes.{box_of, box_holds}
use Rattle.field_boxes.specs.Headline.Fields.{IsHeader}
use Rattle.box_query.specs.Asked.{label, number_decided}
use Rattle.box_query.proofs.asked.cut_all.Given as goal

abbrev pub invariant-loop-rule : goal.invariant-loop-rule
invariant-loop-rule l = (header : List ℕ) → IsHeader header →
    number_decided l.kept.items header ≡ cond (box_holds (box_of l.spans) header) (option_map (label l.wanted) (number_decided (take l.rule-index l.rules) header)) None

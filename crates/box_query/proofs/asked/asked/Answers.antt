use Rattle.std.proofs.Common.{refl, take}
use Rattle.field_boxes.specs.Boxes.{box_of, box_holds}
use Rattle.box_query.specs.Asked.{number_decided}
use Rattle.box_query.proofs.Asking.{asked-all, needed-label}
use Rattle.box_query.proofs.asked.asked.Goals as goal

pub returns : goal.returns
returns c = λ header is.
    let front = take c.needed-count.result c.args.rules.now in
    asked-all c.args.wanted header (box_holds (box_of c.args.spans.now) header) c.args.rules.now c.in_ok-kept.kept.items c.put_cut.new.rules.items c.put_rule.new.rules.items (number_decided front header)
    c.label.result c.open.result c.open-2.result (c.in_ok-kept.ensures header is) (c.open.ensures.matched header is) c.label.ensures (c.in_ok-put_cut.ensures header is)
    (c.open-2.ensures.matched header is) c.open-2.ensures.decision c.in_ok-put_rule.ensures
    (needed-label c.args.wanted c.needed-count.result c.args.rules.now front header refl c.needed-count.ensures.all c.needed-count.ensures.others)

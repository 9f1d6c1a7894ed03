use Rattle.field_boxes.specs.Boxes.{box_of, box_holds}
use Rattle.box_query.proofs.Asking.{labelled-more}
use Rattle.box_query.proofs.asked.cut_all.Goals as goal

pub loop-rule-preserved : goal.loop-rule-preserved
loop-rule-preserved c = λ header is.
    labelled-more c.args.wanted header (box_holds (box_of c.args.spans.now) header) c.args.rules.now c.loop-rule.rule-index c.rule-item.result c.rule-item.result _ _ c.label.result
    c.loop-rule-test.true c.rule-item.is (c.loop-rule.invariant header is) c.label.ensures (c.in_ok-put_cut.ensures header is)

use Rattle.std.proofs.Common.{◌∙◌, ap, sym, arith}
use Rattle.std.specs.Prelude.{◌||◌}
use Rattle.field_boxes.specs.Headline.Classifier.{interval_holds}
use Rattle.field_boxes.specs.Spans.{interval_of}
use Rattle.field_boxes.proofs.United.{union_more}
use Rattle.field_boxes.proofs.ports.Ports.of.Goals as goal

pub loop-span-preserved : goal.loop-span-preserved
loop-span-preserved c =
    let l = c.loop-span in record {
      few = omega (arith, c.united-list.ensures.few, l.invariant.few);
      some = λ _. c.united-list.ensures.some;
      rise = c.united-list.ensures.rise;
      same = λ v.
          c.united-list.ensures.same v
          ∙ ap (λ b. b || interval_holds v (interval_of c.span-item.result)) (l.invariant.same v)
          ∙ sym (union_more v c.args.spans.now l.span-index c.span-item.result c.loop-span-test.true c.span-item.is);
    }

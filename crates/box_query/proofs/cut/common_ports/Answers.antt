use Rattle.std.proofs.Common.{arith, subst, sym, ◌≤◌}
use Rattle.field_boxes.specs.declared.span.Span.{Span}
use Rattle.field_boxes.specs.Spans.{interval_of}
use Rattle.field_boxes.specs.Unions.{RiseApart}
use Rattle.box_query.proofs.Shared.{common-more, rise-low}
use Rattle.box_query.proofs.cut.common_ports.Goals as goal

pub put_common-requires : goal.put_common-requires
put_common-requires c =
    let spans = c.spans-span-items.result.now in
    subst (λ (s : Span). s.hi ≤ 65535) (sym c.span-item.is)
    (rise-low spans 0 65535 (subst (RiseApart 0 65535) (sym c.spans-span-items.ensures.spans) c.spans-span-items.ensures.ports.rise) c.loop-span.span-index c.span-item.result c.loop-span-test.true)

pub loop-span-preserved : goal.loop-span-preserved
loop-span-preserved c =
    let l = c.loop-span in record {
      values = λ v.
          common-more v c.spans-span-items.result.now l.span-index c.span-item.result c.span-item.result (interval_of c.args.to) _ _ c.loop-span-test.true c.span-item.is (l.invariant.values v)
          (c.in_ok-put_common.ensures.values v);
      few = let more = c.in_ok-put_common.ensures.few in let before = l.invariant.few in omega (arith, more, before);
      low = c.in_ok-put_common.ensures.low l.invariant.low;
    }

use Rattle.std.proofs.Common.{◌++◌, ◌+◌, ◌∙◌, ap, sym, subst, arith, take, drop}
use Rattle.std.specs.Prelude.{◌||◌}
use Rattle.std.proofs.lemmas.List.{take_all}
use Rattle.field_boxes.specs.Headline.Classifier.{interval_holds, union_holds}
use Rattle.field_boxes.specs.Spans.{interval_of, intervals_of}
use Rattle.field_boxes.specs.Unions.{RiseApart}
use Rattle.field_boxes.proofs.United.{ends, next_of_rest, union_more, in_turn}
use Rattle.field_boxes.proofs.uniting.united.Goals as goal

pub take-requires-clause-next : goal.take-requires-clause-next
take-requires-clause-next c =
    let l = c.loop-next in
    let spans = c.as_slice-next-items.result.now in
    let lower = l.uniting.lower in
    ends 0 65535 lower (intervals_of (drop (l.next-index + 1) spans)) (interval_of c.next-item.result)
    (subst (λ is. RiseApart 0 65535 (lower ++ is)) (next_of_rest spans l.next-index c.next-item.result c.loop-next-test.true c.next-item.is) l.invariant.rest)

pub loop-next-preserved : goal.loop-next-preserved
loop-next-preserved c =
    let l = c.loop-next in
    let spans = c.as_slice-next-items.result.now in
    let lower = l.uniting.lower in
    let next = c.next-item.result in
    let made = c.take.ensures.rise (intervals_of (drop (l.next-index + 1) spans)) l.invariant.last
    (subst (λ is. RiseApart 0 65535 (lower ++ is)) (next_of_rest spans l.next-index next c.loop-next-test.true c.next-item.is) l.invariant.rest) in record {
      few = omega (arith, c.take.ensures.few, l.invariant.few);
      within = c.take.ensures.within;
      last = made.0;
      rest = made.1;
      same = λ v.
          let added = interval_holds v (interval_of c.args.span) in
          c.take.ensures.same v
          ∙ ap (λ b. b || interval_holds v (interval_of next)) (l.invariant.same v)
          ∙ in_turn (union_holds v (intervals_of (take l.next-index spans))) added (interval_holds v (interval_of next))
          ∙ ap (λ b. b || added) (sym (union_more v spans l.next-index next c.loop-next-test.true c.next-item.is));
    }

pub returns-clause-same : goal.returns-clause-same
returns-clause-same c = λ v.
    let l = c.loop-next in
    let spans = c.as_slice-next-items.result.now in
    ap (union_holds v) c.push.ensures
    ∙ l.invariant.same v
    ∙ ap (λ is. union_holds v is || interval_holds v (interval_of c.args.span)) (ap intervals_of (take_all l.next-index spans c.loop-next-test.false) ∙ c.as_slice-next-items.ensures)

use Rattle.std.proofs.Common.{◌≡◌, ◌+◌, ◌∙◌, ℕ, take, drop, ap, arith, subst, sym}
use Rattle.std.specs.Prelude.{cond, ◌||◌}
use Rattle.std.proofs.lemmas.Bool.{or_from}
use Rattle.std.proofs.lemmas.List.{take_all}
use Rattle.field_boxes.specs.Headline.Classifier.{interval_holds, union_holds}
use Rattle.field_boxes.specs.Spans.{interval_of, intervals_of}
use Rattle.field_boxes.specs.Unions.{RiseApart}
use Rattle.node_store.specs.Edges.{child_of}
use Rattle.field_boxes.proofs.Unions.{weaken, not_past}
use Rattle.field_boxes.proofs.United.{next_of_rest, union_more}
use Rattle.fdd_build.proofs.Forked.{with_interval, at_end}
use Rattle.fdd_build.proofs.fork.edges.Goals as goal

pub loop-span-preserved : goal.loop-span-preserved
loop-span-preserved c =
    let l = c.loop-span in
    let set = c.args.set.now in
    let next = c.span-item.result in
    let made = c.in_ok-take.ensures in
    let filled = made.filled in
    let rest = intervals_of (drop (l.span-index + 1) set) in
    let here = subst (RiseApart l.filling.filled c.args.greatest) (next_of_rest set l.span-index next c.loop-span-test.true c.span-item.is) l.invariant.rest in
    let above = here.0 in
    let ordered = here.1 in
    let top = here.2 in
    let more : (v : ℕ) → union_holds v (intervals_of (take (l.span-index + 1) set)) ≡ (union_holds v (intervals_of (take l.span-index set)) || interval_holds v (interval_of next)) =
    λ v. union_more v set l.span-index next c.loop-span-test.true c.span-item.is in record {
      full = made.full;
      rest = weaken c.take.new.self.filled (next.hi + 2) c.args.greatest rest (omega arith) here.3;
      leads = λ v less.
          made.leads v (omega arith)
          ∙ with_interval v l.filling.filled (child_of l.filling.edges.items v) c.args.inside.0 c.args.outside.0 (interval_of next) (union_holds v (intervals_of (take l.span-index set)))
          above (omega arith) (l.invariant.leads v) (l.invariant.past v)
          ∙ sym (ap (λ b. cond b c.args.inside.0 c.args.outside.0) (more v));
      past = λ v after.
          more v ∙ or_from (union_holds v (intervals_of (take l.span-index set))) (interval_holds v (interval_of next)) (l.invariant.past v (omega arith)) (not_past v (interval_of next) (omega arith));
      within = omega arith;
      children = λ nodes level inside outside. made.children nodes level inside outside (l.invariant.children nodes level inside outside);
    }

pub returns-clause-leads : goal.returns-clause-leads
returns-clause-leads c = λ v top.
    let l = c.loop-span in
    let set = c.args.set.now in
    c.in_ok-edges.ensures.leads v top
    ∙ at_end v l.filling.filled (child_of l.filling.edges.items v) c.args.inside.0 c.args.outside.0 (union_holds v (intervals_of (take l.span-index set))) (l.invariant.leads v) (l.invariant.past v)
    ∙ ap (λ spans. cond (union_holds v (intervals_of spans)) c.args.inside.0 c.args.outside.0) (take_all l.span-index set c.loop-span-test.false)

use Rattle.std.proofs.Common.{◌≡◌, ◌+◌, ◌∙◌, refl, arith, ap}
use Rattle.prefix_min.specs.Savings.{saved}
use Rattle.prefix_min.specs.declared.savings.LabelCost.{LabelCost}
use Rattle.prefix_min.proofs.Listed.{rises_later, add-step, all-sums, listed-head}
use Rattle.prefix_min.proofs.savings.add.Goals as goal

pub least_left-requires-clause-low_rises : goal.least_left-requires-clause-low_rises
least_left-requires-clause-low_rises c = let m = c.loop-label.invariant in rises_later m.next 0 c.loop-label.low.now (omega arith) m.adding.low_rises

pub least_left-requires-clause-high_rises : goal.least_left-requires-clause-high_rises
least_left-requires-clause-high_rises c = let m = c.loop-label.invariant in rises_later m.next 0 c.loop-label.high.now (omega arith) m.adding.high_rises

pub bounds-weights-label : goal.bounds-weights-label
bounds-weights-label c = c.requires.places c.in-Some.label (listed-head c.in-Some.label c.loop-label.invariant.adding c.in-Some.ensures.2)

pub loop-label-preserved : goal.loop-label-preserved
loop-label-preserved c =
    let l = c.loop-label in
    let x = c.in-Some.label in
    let e : LabelCost = record { label = x; cost = c.first_saved.result + c.first_saved-in-Some.result } in
    let cost : e.cost ≡ saved l.low.now x + saved l.high.now x = ap (λ n. n + c.first_saved-in-Some.result) c.first_saved.ensures ∙ ap (λ n. saved l.low.now x + n) c.first_saved-in-Some.ensures in
    let next = add-step x e l.invariant.adding refl cost c.in-Some.ensures.0 c.in-Some.ensures.1 c.in-Some.ensures.2 l.invariant.best in
    rw (c.in_ok-push.ensures.items, c.after-low.ensures, c.after-high.ensures, c.raised-gain.ensures) next

pub returns-clause-sums : goal.returns-clause-sums
returns-clause-sums c = all-sums c.loop-label.invariant c.in_default.ensures.0 c.in_default.ensures.1

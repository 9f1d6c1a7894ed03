use Rattle.std.proofs.Common.{false, true, ◌≡◌, ◌+◌, ◌∙◌, suc, length, drop, sym, subst, arith, rules}
use Rattle.field_boxes.specs.Headline.Fields.{stated}
use Rattle.rule_audit.specs.Search.{IsFound}
use Rattle.rule_audit.specs.Marks.{AreWithin, HasMarked}
use Rattle.rule_audit.proofs.Least.{all_gone, found_here, gone_on, nowhere, used, none_hidden}
use Rattle.rule_audit.proofs.search.least.ShortSearch.+seeking.Goals as goal

pub least-is_nothing-requires : goal.least-is_nothing-requires
least-is_nothing-requires t c = omega (arith, used c.args.store.now c.args.around.now.here.0 c.args.depth c.requires.around.here, c.requires.nothing.count)

pub least-hide-requires : goal.least-hide-requires
least-hide-requires t c =
    subst (AreWithin c.args.self.now.full.items) (sym c.as_slice.ensures)
    (λ k d less. omega (arith, used c.args.store.now _ c.args.depth (c.requires.around.before k d less), c.requires.full.count))

pub least-returns-then-hide : goal.least-returns-then-hide
least-returns-then-hide t c =
    none_hidden c.args.store.now (drop c.args.depth stated) c.args.around.now c.requires.around c.args.self.now.full.items c.requires.full.right
    (subst (HasMarked c.args.self.now.full.items) c.as_slice.ensures c.if-hide.ensures)

pub each_value-returns-then-not-is_nowhere : goal.each_value-returns-then-not-is_nowhere
each_value-returns-then-not-is_nowhere t c =
    let l = c.loop-lo in
    let five : length c.args.header.values ≡ 5 = search rules in
    let apart : c.is_nowhere.result ≡ false = search rules in
    let one : c.args.depth + 1 ≡ suc c.args.depth = omega arith in
    found_here c.args.store.now c.args.depth c.args.around.now l.lo c.in_ok-step.step c.in_ok-step.ensures l.invariant c.args.header.values c.with_value-begun.result.values c.in_ok-found.found
    c.requires.depth five c.with_value-begun.ensures
    (subst (λ d. IsFound c.args.store.now d c.in_ok-step.step.around c.with_value-begun.result.values c.in_ok-found.found) one c.in_ok-found.ensures)
    (sym c.is_nowhere.ensures ∙ apart)

pub each_value-returns : goal.each_value-returns
each_value-returns t c =
    let l = c.loop-lo in
    all_gone c.args.store.now c.args.depth c.args.around.now l.lo c.requires.depth (omega (arith, c.from-top.ensures, c.greatest.ensures, c.loop-lo-test.false)) l.invariant

pub each_value-loop-lo-preserved : goal.each_value-loop-lo-preserved
each_value-loop-lo-preserved t c =
    let l = c.loop-lo in
    let vain : c.is_nowhere.result ≡ true = search rules in
    let one : c.args.depth + 1 ≡ suc c.args.depth = omega arith in
    gone_on c.args.store.now c.args.depth c.args.around.now l.lo c.in_ok-step.step c.in_ok-step.ensures l.invariant (c.from-lo.result + 1) (omega (arith, c.from-lo.ensures))
    (nowhere c.args.store.now (suc c.args.depth) c.in_ok-step.step.around c.with_value-begun.result.values c.in_ok-found.found
    (subst (λ d. IsFound c.args.store.now d c.in_ok-step.step.around c.with_value-begun.result.values c.in_ok-found.found) one c.in_ok-found.ensures)
    (sym c.is_nowhere.ensures ∙ vain))

use Rattle.std.proofs.Common.{◌≤◌, ◌∙◌, ap, arith, drop, length, subst, sym}
use Rattle.prefix_min.specs.Merging.{IsTaken}
use Rattle.prefix_min.specs.Savings.{with_one}
use Rattle.prefix_min.proofs.Joined.{taken-first, taken-last}
use Rattle.prefix_min.proofs.savings.merging.taken.Goals as goal

pub returns-in-Some-last_one : goal.returns-in-Some-last_one
returns-in-Some-last_one c =
    let es = c.args.savings.now.items in
    let to : c.args.middle ≤ length es = omega (arith, c.requires.to, ap (λ o. length (with_one es o)) c.in_default.is) in
    subst (λ o. IsTaken c.truncate.new.self.items (with_one es o) c.args.start c.args.middle c.in-Some-last_one.one) (sym c.in_default.is)
    (taken-last c.args.start c.args.middle c.requires.from to c.truncate.ensures.items (ap (λ zs. drop c.args.middle zs) (sym c.deref.ensures.value) ∙ c.in-Some-last_one.ensures))

pub returns : goal.returns
returns c =
    let es = c.args.savings.now.items in
    let to : c.args.middle ≤ length es = omega (arith, c.requires.to, ap (λ o. length (with_one es o)) c.in_default.is) in
    subst (λ o. IsTaken c.remove.new.self.items (with_one es o) c.args.start c.args.middle c.index.result.now) (sym c.in_default.is)
    (taken-first c.args.start c.args.middle c.if-middle-start.false to c.remove.ensures.by_index.2 c.index.ensures)

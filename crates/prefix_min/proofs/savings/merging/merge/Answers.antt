use Rattle.std.proofs.Common.{◌∙◌, ◌+◌, ◌-◌, ap, arith, rules, set, subst, sym}
use Rattle.prefix_min.specs.Merging.{StandsAt}
use Rattle.prefix_min.proofs.Joined.{merged-cost, merged-in, merged-none, merged-to, place-le, place-of, read-at}
use Rattle.prefix_min.proofs.savings.merging.merge.Goals as goal

pub overflow_add-place : goal.overflow_add-place
overflow_add-place c =
    let within = place-le c.args.one (place-of c.args.one c.requires.start c.count_below.ensures c.deref.ensures.value) in
    search rules

pub overflow_add-entry : goal.overflow_add-entry
overflow_add-entry c =
    let there = rw c.deref-2.ensures.value at (c.stands_at.ensures.yes c.if-stands_at.true) in
    let at = place-of c.args.one c.requires.start c.count_below.ensures c.deref.ensures.value in
    omega (
      arith,
      ap (λ e. e.cost) (read-at c.args.savings.now.items (c.args.start + c.count_below.result) there.0 c.index-entry.ensures),
      merged-cost c.args.one at
          there,
      c.requires.room,
    )

pub returns-then-stands_at : goal.returns-then-stands_at
returns-then-stands_at c =
    let x = c.args.one in
    let there = rw c.deref-2.ensures.value at (c.stands_at.ensures.yes c.if-stands_at.true) in
    let at = place-of c.args.one c.requires.start c.count_below.ensures c.deref.ensures.value in
    let es = c.args.savings.now.items in
    let place = c.args.start + c.count_below.result in
    let read = read-at es place there.0 c.index-entry.ensures in
    let cost = c.index-entry.result.now.cost + x.cost in
    record {
      savings = ap (λ l. set es place (record { label = l; cost = cost })) (ap (λ e. e.label) read ∙ there.1)
          ∙ merged-to x at cost there (ap (λ e. e.cost + x.cost) read);
      gain = c.saturating_sub.ensures ∙ ap (λ n. n + x.cost - c.args.weight) (ap (λ e. e.cost) read ∙ sym (merged-cost x at there));
    }

pub put_in-requires : goal.put_in-requires
put_in-requires c = omega (
  arith,
  place-le c.args.one
      (place-of c.args.one c.requires.start c.count_below.ensures c.deref.ensures.value),
  c.args.savings.now.ok.0,
)

pub returns : goal.returns
returns c =
    let x = c.args.one in
    let at = place-of c.args.one c.requires.start c.count_below.ensures c.deref.ensures.value in
    let none = λ (h : StandsAt c.args.savings.now.items (c.args.start + c.count_below.result) x.label).
    c.stands_at.ensures.no c.if-stands_at.false (subst (λ zs. StandsAt zs (c.args.start + c.count_below.result) x.label) (sym c.deref-2.ensures.value) h) in
    record { savings = c.in_ok-put_in.ensures ∙ merged-in x at none; gain = merged-none x at c.args.weight c.requires.rises c.requires.light none }

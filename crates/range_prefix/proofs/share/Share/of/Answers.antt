use Rattle.std.proofs.Common.{◌⊎◌, ◌+◌, ◌-◌, ◌^◌, ◌<◌, ap, arith, inl, inr, refl}
use Rattle.range_prefix.proofs.Unions.{missed, nothing_left, shares-out, whole}
use Rattle.range_prefix.proofs.share.Share.of.Goals as goal

pub returns-in_default : goal.returns-in_default
returns-in_default c =
    let lo = ap (λ i. i.lo) c.span-block.ensures in
    nothing_left c.args.width c.args.prefix c.reaching-left.result.now c.args.spans.now c.in_default.len_below (λ v h. c.reaching-left.ensures.same v (omega arith))

pub returns-then-block-first : goal.returns-then-block-first
returns-then-block-first c =
    let lo = ap (λ i. i.lo) c.span-block.ensures in
    let hi = ap (λ i. i.hi) c.span-block.ensures in
    let e = c.reaching-left.ensures in
    missed c.args.width c.args.prefix c.reaching-left.result.now c.args.spans.now c.first-item.result c.in-len1-up.len_at_least c.first-item.is e.apart (λ v h. e.same v (omega arith)) (omega arith)

pub returns-then-has_whole : goal.returns-then-has_whole
returns-then-has_whole c =
    let lo = ap (λ i. i.lo) c.span-block.ensures in
    let hi = ap (λ i. i.hi) c.span-block.ensures in
    let e = c.reaching-left.ensures in
    let ends = rw c.if-has_whole.true at c.has_whole.ensures.yes in
    whole c.args.width c.args.prefix c.reaching-left.result.now c.args.spans.now c.first-item.result c.requires.fits.len c.in-len1-up.len_at_least c.first-item.is (λ v h. e.same v (omega arith)) (omega arith) (omega arith)

pub returns : goal.returns
returns c =
    let p = c.args.prefix in
    let lo = ap (λ i. i.lo) c.span-block.ensures in
    let hi = ap (λ i. i.hi) c.span-block.ensures in
    let e = c.reaching-left.ensures in
    let first = c.first-item.result in
    let part : (p.value < first.lo) ⊎ (first.hi < p.value + (2 ^ (c.args.width - p.len) - 1)) = elim (rw c.if-has_whole.false at c.has_whole.ensures.no) [ inl h ↦ inl (omega arith) | inr h ↦ inr (omega arith) ] in
    shares-out c.args.width c.span-block.result.lo p _ c.args.spans.now c.reaching-left.result.now first lo refl c.halves.ensures.low c.halves.ensures.high c.requires.fits c.in-len1-up.len_at_least c.first-item.is e.apart (λ v h. e.same v (omega arith)) e.first (omega arith) part

use Rattle.std.proofs.Common.{◌<◌, Contains, slice_index}
use Rattle.agreement_check.proofs.Outcomes.{decided-no}
use Rattle.agreement_check.proofs.Searching.{contained, kept-turn}
use Rattle.agreement_check.proofs.join.within.Goals as goal

pub loop-place-preserved : goal.loop-place-preserved
loop-place-preserved c =
    kept-turn (λ k. (k < c.args.limit) × (c.args.least < slice_index c.args.numbers.now k)) c.args.places.now c.loop-place.some.items c.keep.new.others.items c.loop-place.place-index _ c.is_within.result
    c.loop-place-test.true c.in_ok-keep.ensures (decided-no c.is_within.result _ _ c.is_within.ensures (λ no. no)) c.loop-place.invariant

pub returns : goal.returns
returns c = λ k has below above.
    contained (λ k. (k < c.args.limit) × (c.args.least < slice_index c.args.numbers.now k) → Contains c.loop-place.some.items k) c.args.places.now c.loop-place.place-index c.loop-place.invariant c.loop-place-test.false k has
    (below, above)

use Rattle.std.proofs.Common.{◌≡◌, subst, arith}
use Rattle.bit_merge.specs.Near.{IsNear}
use Rattle.bit_merge.specs.Slots.{IsLeast}
use Rattle.bit_merge.proofs.Leasts.{least-start, least-end}
use Rattle.bit_merge.proofs.partner.least_partner.Goals as goal

pub loop-bit-init : goal.loop-bit-init
loop-bit-init c = least-start c.args.places.now c.args.word.now c.least_place-found.result c.least_place-found.ensures

pub returns : goal.returns
returns c =
    let w = c.args.word.now in
    let all : c.loop-bit.bit ≡ 104 = omega (arith, c.loop-bit.auto.bit-end, c.loop-bit-test.false) in
    least-end c.args.places.now w c.loop-bit.found
    (subst (λ n. IsLeast c.args.places.now (λ b. IsNear n w.mask w.value b.mask b.value) c.loop-bit.found) all c.loop-bit.invariant)

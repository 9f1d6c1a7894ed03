use Rattle.std.proofs.Common.{◌*◌, ◌/◌, ◌^◌, ◌<◌, arith}
use Rattle.std.proofs.Math.Nat.{div-mul-le_self, mod-eq_of_lt}
use Rattle.agreement_check.proofs.Rules.{fits-round}
use Rattle.agreement_check.proofs.rule_word.prefix_round.Goals as goal

pub returns-clause-fits : goal.returns-clause-fits
returns-clause-fits c =
    let f = c.bits_apart-free.result in
    let lo = c.from.result in
    let less : lo / 2 ^ f * 2 ^ f < 2 ^ 64 = omega (arith, div-mul-le_self lo (2 ^ f), c.from.ensures, c.ranges.lo.fits) in
    rw (mod-eq_of_lt less) (fits-round c.args.width f lo c.requires.width c.bits_apart-free.ensures.within (omega (arith, c.from.ensures, c.requires.small)))

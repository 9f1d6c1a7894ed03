use Rattle.std.proofs.Common.{refl}
use Rattle.agreement_check.proofs.Claiming.{difference-taken}
use Rattle.agreement_check.proofs.claims.Claims.take_difference.Goals as goal

pub returns-clause-judged : goal.returns-clause-judged
returns-clause-judged c = λ fresh is.
    difference-taken c.args.self.now _ c.in-Some-difference_on.difference c.in-Some-new.header c.args.values c.requires.sound fresh refl c.in_default.ensures c.in-Some-difference_on.ensures.alike
    c.in-Some-new.ensures.same c.in-Some-difference_on.ensures.header

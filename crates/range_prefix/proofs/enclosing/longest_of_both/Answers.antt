use Rattle.std.proofs.Common.{◌≡◌, arith}
use Rattle.range_prefix.proofs.Both.{few_free, longest}
use Rattle.range_prefix.proofs.enclosing.longest_of_both.Goals as goal

pub overflow_sub-result : goal.overflow_sub-result
overflow_sub-result c = few_free c.args.width c.args.lo c.args.hi c.requires.wide c.requires.lo c.requires.hi

pub returns-clause-fits : goal.returns-clause-fits
returns-clause-fits c = let is : c.from.result ≡ c.args.lo = omega (arith, c.from.ensures) in rw is (longest c.args.width c.args.lo c.args.hi c.requires.wide c.requires.lo c.requires.hi).fits

pub returns-clause-lo : goal.returns-clause-lo
returns-clause-lo c = let is : c.from.result ≡ c.args.lo = omega (arith, c.from.ensures) in rw is (longest c.args.width c.args.lo c.args.hi c.requires.wide c.requires.lo c.requires.hi).holds_lo

pub returns-clause-hi : goal.returns-clause-hi
returns-clause-hi c = let is : c.from.result ≡ c.args.lo = omega (arith, c.from.ensures) in rw is (longest c.args.width c.args.lo c.args.hi c.requires.wide c.requires.lo c.requires.hi).holds_hi

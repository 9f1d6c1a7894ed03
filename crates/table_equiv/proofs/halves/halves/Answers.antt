use Rattle.std.proofs.Common.{ap}
use Rattle.word_cover.specs.Cubes.{Cube}
use Rattle.table_equiv.proofs.Bits.{halved, in-one, in-zero, wider}
use Rattle.table_equiv.proofs.halves.halves.Goals as goal

pub returns-clause-cover : goal.returns-clause-cover
returns-clause-cover c = halved c.args.word.now c.zero_half-zero.result c.one_half-one.result c.args.bit c.zero_half-zero.ensures c.one_half-one.ensures

pub returns-clause-in_zero : goal.returns-clause-in_zero
returns-clause-in_zero c = in-zero c.args.word.now c.zero_half-zero.result c.args.bit c.zero_half-zero.ensures

pub returns-clause-in_one : goal.returns-clause-in_one
returns-clause-in_one c = in-one c.args.word.now c.one_half-one.result c.args.bit c.requires.1 c.one_half-one.ensures

pub returns-clause-zero : goal.returns-clause-zero
returns-clause-zero c = rw (ap (λ (x : Cube). x.mask) c.zero_half-zero.ensures) (wider c.args.word.now.mask c.args.bit c.requires.1)

pub returns-clause-one : goal.returns-clause-one
returns-clause-one c = rw (ap (λ (x : Cube). x.mask) c.one_half-one.ensures) (wider c.args.word.now.mask c.args.bit c.requires.1)

use Rattle.table_equiv.proofs.Bits.{least-in}
use Rattle.table_equiv.proofs.cube.least.Goals as goal

pub returns-clause-within : goal.returns-clause-within
returns-clause-within c = least-in c.args.word.now c.header_of.result.values c.header_of.ensures.is c.header_of.ensures.key

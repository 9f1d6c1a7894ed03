use Rattle.word_cover.proofs.Headers.{halves-are}
use Rattle.word_cover.proofs.splits.halves.Goals as goal

pub returns-then-one : goal.returns-then-one
returns-then-one c = (halves-are c.args.word.now c.zero_half-zero_half.result c.one_half-one_half.result c.args.bit c.zero_half-zero_half.ensures c.one_half-one_half.ensures).1

pub returns-else-one : goal.returns-else-one
returns-else-one c = (halves-are c.args.word.now c.zero_half-zero_half.result c.one_half-one_half.result c.args.bit c.zero_half-zero_half.ensures c.one_half-one_half.ensures).0

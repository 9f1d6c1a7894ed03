use Rattle.std.proofs.Common.{arith}
use Rattle.std.proofs.lemmas.Nat.{pow_pos}
use Rattle.prefix_min.proofs.Blocks.{one_bit}
use Rattle.prefix_min.proofs.parts.top.Goals as goal

pub returns : goal.returns
returns c = omega (arith, one_bit c.args.bits c.requires.wide, pow_pos c.args.bits, c.from.ensures)

use Rattle.std.proofs.Common.{◌∙◌, ap}
use Rattle.std.specs.Prelude.{bit_or}
use Rattle.std.proofs.lemmas.Nat.{or_shifted}
use Rattle.std.proofs.Math.Nat.{mod-eq_of_lt}
use Rattle.tcam_sim.proofs.key.joined.Goals as goal

pub returns : goal.returns
returns c = rw c.from.ensures (ap (λ n. bit_or n c.args.low) (mod-eq_of_lt c.requires.room) ∙ or_shifted c.args.high c.args.width c.args.low c.requires.small)

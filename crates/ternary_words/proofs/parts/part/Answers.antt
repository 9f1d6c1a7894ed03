use Rattle.std.proofs.Common.{◌-◌, ◌≤◌, refl, arith}
use Rattle.std.specs.Prelude.{bit_and}
use Rattle.std.proofs.lemmas.Nat.{and_le_r}
use Rattle.ternary_words.proofs.OnesInFront.{low_zero}
use Rattle.ternary_words.proofs.parts.part.Goals as goal

pub returns : goal.returns
returns c =
    let found = c.in_ok-len.ensures in
    let v = c.args.value in
    let below : bit_and v c.args.mask ≤ c.args.mask = and_le_r v c.args.mask in
    let within = c.requires.within in
    let small = c.requires.small in
    record {
      fits = record {
        wide = c.requires.wide;
        len = found.0;
        small = omega (arith, below, within, small);
        low = low_zero c.in_ok-len.len (c.args.width - c.in_ok-len.len) v c.args.mask within found.1;
      };
      valued = refl;
      masked = found.1;
    }

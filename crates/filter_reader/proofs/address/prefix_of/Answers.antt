use Rattle.std.proofs.Common.{◌≡◌, ℕ, ◌*◌, ◌-◌, ◌/◌, ◌%◌, ◌^◌, ◌<◌, ◌≤◌, arith}
use Rattle.std.proofs.lemmas.Nat.{one_shl}
use Rattle.std.proofs.Math.Nat.{mul-mod_left, div-mul-le_self}
use Rattle.field_boxes.specs.Headline.Prefix.{FitsWidth}
use Rattle.filter_reader.proofs.address.prefix_of.Goals as goal

-- the bits past the length are cut off
cut_fits : (address len size : ℕ) → address < 2 ^ 32 → len ≤ 32 → size ≡ 2 ^ (32 - len) → FitsWidth 32 (record { value = address / size * size; len = len })
cut_fits address len size small le e = rw e (record {
  wide = omega arith;
  len = le;
  small = omega (arith, div-mul-le_self address (2 ^ (32 - len)));
  low = mul-mod_left (address / 2 ^ (32 - len)) (2 ^ (32 - len));
})

pub returns-clause-fits : goal.returns-clause-fits
returns-clause-fits c = cut_fits c.from.result c.args.len (1 * 2 ^ (32 - c.args.len) % 2 ^ 64) (omega arith) c.requires (one_shl (32 - c.args.len) 64 (omega arith))

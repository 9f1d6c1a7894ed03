-- Parts of the field and their halves.
use Rattle.std.proofs.Common.{ℕ, suc, ◌+◌, ◌^◌, ◌≤◌, arith}
use Rattle.std.proofs.Math.Nat.{zero-mod}
use Rattle.prefix_min.specs.Rows.{IsPart}
use Rattle.field_boxes.proofs.Powers.{aligned_high, aligned_low, double}

pub low-half : {width n low : ℕ} → IsPart width (suc n) low → IsPart width n low
low-half {n = n} {low = low} p = record {
  wide = p.wide;
  len = omega (arith, p.len);
  within = omega (arith, p.within, double n);
  aligned = aligned_low n low p.aligned;
}

pub high-half : {width n low : ℕ} → IsPart width (suc n) low → IsPart width n (low + 2 ^ n)
high-half {n = n} {low = low} p = record {
  wide = p.wide;
  len = omega (arith, p.len);
  within = omega (arith, p.within, double n);
  aligned = aligned_high n low p.aligned;
}

-- the whole field is a part of itself
pub field-part : (width : ℕ) → width ≤ 32 → IsPart width width 0
field-part width le = record { wide = le; len = omega arith; within = omega arith; aligned = zero-mod (2 ^ width) }

-- Blocks of a field that begin at a multiple of their size.
use Rattle.std.proofs.Common.{◌≡◌, ℕ, suc, ◌+◌, ◌-◌, ◌*◌, ◌%◌, ◌^◌, ◌<◌, ◌≤◌, Fits, arith, subst}
use Rattle.std.specs.Int.{w32}
use Rattle.std.proofs.Math.Pow.{pow_mono}
use Rattle.std.proofs.Math.Nat.{zero-mod}
use Rattle.std.proofs.lemmas.Nat.{one_shl, pow_pos}
use Rattle.field_boxes.specs.declared.prefix.Prefix.{Prefix}
use Rattle.field_boxes.specs.Headline.Prefix.{FitsWidth}
use Rattle.field_boxes.proofs.Prefixes.{whole_step_within}
use Rattle.field_boxes.proofs.Powers.{double, aligned_low, aligned_high}

-- an aligned block of a field
pub record IsBlock (width n v : ℕ) : Type 0 where
  pub wide : width ≤ 32
  pub least : n ≤ width
  pub below : v + 2 ^ n ≤ 2 ^ width
  pub aligned : v % 2 ^ n ≡ 0

pub low_block : (width n v : ℕ) → IsBlock width (suc n) v → IsBlock width n v
low_block width n v b =
    let d = double n in
    let least = b.least in
    let below = b.below in
    record { wide = b.wide; least = omega arith; below = omega arith; aligned = aligned_low n v b.aligned }

pub high_block : (width n v : ℕ) → IsBlock width (suc n) v → IsBlock width n (v + 2 ^ n)
high_block width n v b =
    let d = double n in
    let least = b.least in
    let below = b.below in
    record { wide = b.wide; least = omega arith; below = omega arith; aligned = aligned_high n v b.aligned }

pub block-fits : (width n v : ℕ) → IsBlock width n v → FitsWidth width (record { value = v; len = width - n })
block-fits width n v b =
    let least = b.least in
    let below = b.below in
    let positive = pow_pos n in
    let free : n ≡ width - (width - n) = omega arith in
    record { wide = b.wide; len = omega arith; small = omega arith; low = subst (λ m. v % 2 ^ m ≡ 0) free b.aligned }

-- the whole field
pub field_block : (width : ℕ) → width ≤ 32 → IsBlock width width 0
field_block width wide = record { wide = wide; least = omega arith; below = omega arith; aligned = zero-mod (2 ^ width) }

-- what a prefix holds is a block, and the other way round
pub block_of : (width : ℕ) (p : Prefix) → FitsWidth width p → IsBlock width (width - p.len) p.value
block_of width p fits = record { wide = fits.wide; least = omega arith; below = whole_step_within width p.len p.value fits.len fits.small fits.low; aligned = fits.low }

fits-from : (width : ℕ) (p : Prefix) → p.len ≤ width → IsBlock width (width - p.len) p.value → FitsWidth width p
fits-from width p short b =
    let below = b.below in
    let positive = pow_pos (width - p.len) in
    record { wide = b.wide; len = short; small = omega arith; low = b.aligned }

-- a prefix that can be longer is a block that can be halved
split_block : (width : ℕ) (p : Prefix) → FitsWidth width p → p.len < width → IsBlock width (suc (width - (p.len + 1))) p.value
split_block width p fits splits =
    let e : width - p.len ≡ suc (width - (p.len + 1)) = omega arith in
    subst (λ n. IsBlock width n p.value) e (block_of width p fits)

pub low-fits : (width : ℕ) (p : Prefix) → FitsWidth width p → p.len < width → FitsWidth width (record { value = p.value; len = p.len + 1 })
low-fits width p fits splits =
    let next : p.len + 1 ≤ width = omega arith in
    fits-from width (record { value = p.value; len = p.len + 1 }) next (low_block width (width - (p.len + 1)) p.value (split_block width p fits splits))

pub high-fits : (width : ℕ) (p : Prefix) → FitsWidth width p → p.len < width → FitsWidth width (record { value = p.value + 2 ^ (width - (p.len + 1)); len = p.len + 1 })
high-fits width p fits splits =
    let next : p.len + 1 ≤ width = omega arith in
    fits-from width (record { value = p.value + 2 ^ (width - (p.len + 1)); len = p.len + 1 }) next (high_block width (width - (p.len + 1)) p.value (split_block width p fits splits))

-- the value that the higher half begins with, as 32 bits compute it
high-size : (width : ℕ) (p : Prefix) → FitsWidth width p → p.len < width → (1 * 2 ^ (width - (p.len + 1))) % 2 ^ 32 ≡ 2 ^ (width - (p.len + 1))
high-size width p fits splits = let wide = fits.wide in one_shl (width - (p.len + 1)) 32 (omega arith)

pub high-value : (width : ℕ) (p : Prefix) → FitsWidth width p → p.len < width → Fits w32 (p.value + (1 * 2 ^ (width - (p.len + 1))) % 2 ^ 32)
high-value width p fits splits =
    let size = high-size width p fits splits in
    let high = high-fits width p fits splits in
    let small = high.small in
    let room : 2 ^ width ≤ 2 ^ 32 = pow_mono fits.wide in
    rw size (omega arith)

-- The masks of prefixes: their size, their bits, and that a prefix's value lies in its mask.
use Rattle.std.proofs.Common.{◌≡◌, ℕ, ◌+◌, ◌-◌, ◌*◌, ◌%◌, ◌^◌, ◌<◌, ◌≤◌, Fits, ap, subst, ◌∙◌, arith}
use Rattle.std.specs.Int.{w32}
use Rattle.std.proofs.lemmas.Nat.{pow_pos, one_shl, shl_below}
use Rattle.std.proofs.Math.Nat.{mod-eq_of_lt}
use Rattle.std.proofs.Math.Pow.{pow_mono}
use Rattle.field_boxes.specs.Headline.Prefix.{FitsWidth}
use Rattle.field_boxes.specs.declared.prefix.Prefix.{Prefix}
use Rattle.ternary_words.specs.Prefixes.{mask_of}

pub mask_below : (l k : ℕ) → (2 ^ l - 1) * 2 ^ k < 2 ^ (l + k)
mask_below l k = let p = pow_pos l in shl_below (2 ^ l - 1) l k (omega (arith, p))

pub mask_small : (w : ℕ) (p : Prefix) → FitsWidth w p → mask_of w p < 2 ^ w
mask_small w p fits =
    let le = fits.len in
    let whole : p.len + (w - p.len) ≡ w = omega arith in
    subst (λ n. mask_of w p < 2 ^ n) whole (mask_below p.len (w - p.len))

-- the shifts of the code lose nothing
pub mask_shifts : (w : ℕ) (p : Prefix) → FitsWidth w p → ((1 * 2 ^ p.len % 2 ^ 64) - 1) * 2 ^ (w - p.len) % 2 ^ 64 ≡ mask_of w p
mask_shifts w p fits =
    let wide = fits.wide in
    let le = fits.len in
    let one = one_shl p.len 64 (omega arith) in
    let room : 2 ^ w ≤ 2 ^ 32 = pow_mono wide in
    let small = mask_small w p fits in
    let below : mask_of w p < 2 ^ 64 = omega (arith, small, room) in
    ap (λ n. (n - 1) * 2 ^ (w - p.len) % 2 ^ 64) one ∙ mod-eq_of_lt below

pub mask_fits : (w : ℕ) (p : Prefix) → FitsWidth w p → Fits w32 (((1 * 2 ^ p.len % 2 ^ 64) - 1) * 2 ^ (w - p.len) % 2 ^ 64)
mask_fits w p fits =
    let wide = fits.wide in
    let room : 2 ^ w ≤ 2 ^ 32 = pow_mono wide in
    let small = mask_small w p fits in
    rw (mask_shifts w p fits) (omega (arith, small, room))

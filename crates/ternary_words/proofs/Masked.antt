-- The value of a word of prefixes lies within its mask.
use Rattle.std.proofs.Common.{◌≡◌, ℕ, ◌+◌, ◌-◌, ◌*◌, ◌/◌, ◌%◌, ◌^◌, ◌<◌, List, length, map, get_or, ap, sym, subst, ◌∙◌, refl, arith}
use Rattle.std.specs.Prelude.{bit_and, slice_index}
use Rattle.std.proofs.lemmas.Nat.{pow_pos, shr_split, shr_below, and_mask, and_block}
use Rattle.std.proofs.Math.Nat.{mod-eq_of_lt}
use Rattle.field_boxes.specs.Headline.Fields.{stated, width}
use Rattle.field_boxes.specs.Headline.Prefix.{FitsWidth}
use Rattle.field_boxes.specs.declared.prefix.Prefix.{Prefix}
use Rattle.ternary_words.specs.Word.{key_of}
use Rattle.ternary_words.specs.Prefixes.{FitFields, mask_of, masks_of}
use Rattle.ternary_words.proofs.Fives.{five_of, fit_five}
use Rattle.ternary_words.proofs.PrefixMasks.{mask_small}

masked_joined : (k a m b n : ℕ) → b < 2 ^ k → n < 2 ^ k → bit_and a m ≡ a → bit_and b n ≡ b → bit_and (a * 2 ^ k + b) (m * 2 ^ k + n) ≡ a * 2 ^ k + b
masked_joined k a m b n hb hn high low =
    and_block k a m b n hb hn ∙ ap (λ x. x * 2 ^ k + bit_and b n) high ∙ ap (λ x. a * 2 ^ k + x) low

masked_part : (l k v : ℕ) → v < 2 ^ (l + k) → v % 2 ^ k ≡ 0 → bit_and v ((2 ^ l - 1) * 2 ^ k) ≡ v
masked_part l k v small low =
    let p = pow_pos k in
    let parts = shr_split v k in
    let whole : v / 2 ^ k * 2 ^ k + 0 ≡ v = omega (arith, parts, low) in
    let none : (2 ^ l - 1) * 2 ^ k + 0 ≡ (2 ^ l - 1) * 2 ^ k = omega arith in
    let high : bit_and (v / 2 ^ k) (2 ^ l - 1) ≡ v / 2 ^ k = and_mask (v / 2 ^ k) l ∙ mod-eq_of_lt (shr_below v l k small) in
    ap (λ x. bit_and x ((2 ^ l - 1) * 2 ^ k)) (sym whole) ∙ ap (bit_and (v / 2 ^ k * 2 ^ k + 0)) (sym none)
    ∙ masked_joined k (v / 2 ^ k) (2 ^ l - 1) 0 0 p p high refl ∙ whole

masked_at : (w l k v : ℕ) → l + k ≡ w → v < 2 ^ w → v % 2 ^ k ≡ 0 → bit_and v ((2 ^ l - 1) * 2 ^ k) ≡ v
masked_at w l k v e = subst (λ n. v < 2 ^ n → v % 2 ^ k ≡ 0 → bit_and v ((2 ^ l - 1) * 2 ^ k) ≡ v) e (masked_part l k v)

masked_prefix : (w : ℕ) (p : Prefix) → FitsWidth w p → bit_and p.value (mask_of w p) ≡ p.value
masked_prefix w p fits =
    let le = fits.len in
    let whole : p.len + (w - p.len) ≡ w = omega arith in
    masked_at w p.len (w - p.len) p.value whole fits.small fits.low

in_turn : (a b c d e : ℕ) → a * 2 ^ 72 + b * 2 ^ 40 + c * 2 ^ 24 + d * 2 ^ 8 + e ≡ (((a * 2 ^ 32 + b) * 2 ^ 16 + c) * 2 ^ 16 + d) * 2 ^ 8 + e
in_turn a b c d e = omega arith

-- five prefixes that fit their fields
masked_five : (p0 p1 p2 p3 p4 : Prefix) → FitsWidth 32 p0 → FitsWidth 32 p1 → FitsWidth 16 p2 → FitsWidth 16 p3 → FitsWidth 8 p4 →
    bit_and (p0.value * 2 ^ 72 + p1.value * 2 ^ 40 + p2.value * 2 ^ 24 + p3.value * 2 ^ 8 + p4.value)
    (mask_of 32 p0 * 2 ^ 72 + mask_of 32 p1 * 2 ^ 40 + mask_of 16 p2 * 2 ^ 24 + mask_of 16 p3 * 2 ^ 8 + mask_of 8 p4)
    ≡ p0.value * 2 ^ 72 + p1.value * 2 ^ 40 + p2.value * 2 ^ 24 + p3.value * 2 ^ 8 + p4.value
masked_five p0 p1 p2 p3 p4 f0 f1 f2 f3 f4 =
    let turned = in_turn p0.value p1.value p2.value p3.value p4.value in
    let pair = masked_joined 32 p0.value (mask_of 32 p0) p1.value (mask_of 32 p1) f1.small (mask_small 32 p1 f1) (masked_prefix 32 p0 f0) (masked_prefix 32 p1 f1) in
    let three = masked_joined 16 _ _ p2.value (mask_of 16 p2) f2.small (mask_small 16 p2 f2) pair (masked_prefix 16 p2 f2) in
    let four = masked_joined 16 _ _ p3.value (mask_of 16 p3) f3.small (mask_small 16 p3 f3) three (masked_prefix 16 p3 f3) in
    let five = masked_joined 8 _ _ p4.value (mask_of 8 p4) f4.small (mask_small 8 p4 f4) four (masked_prefix 8 p4 f4) in
    ap (λ x. bit_and x (mask_of 32 p0 * 2 ^ 72 + mask_of 32 p1 * 2 ^ 40 + mask_of 16 p2 * 2 ^ 24 + mask_of 16 p3 * 2 ^ 8 + mask_of 8 p4)) turned
    ∙ ap (bit_and ((((p0.value * 2 ^ 32 + p1.value) * 2 ^ 16 + p2.value) * 2 ^ 16 + p3.value) * 2 ^ 8 + p4.value)) (in_turn (mask_of 32 p0) (mask_of 32 p1) (mask_of 16 p2) (mask_of 16 p3) (mask_of 8 p4))
    ∙ five ∙ sym turned

pub masked_key : (ps : List Prefix) (d : Prefix) → length ps ≡ 5 → FitFields stated ps →
    bit_and (key_of (map (λ p. p.value) ps)) (key_of (masks_of stated ps)) ≡ key_of (map (λ p. p.value) ps)
masked_key ps d five fits =
    let f = fit_five ps d five fits in
    subst (λ (qs : List Prefix). bit_and (key_of (map (λ p. p.value) qs)) (key_of (masks_of stated qs)) ≡ key_of (map (λ p. p.value) qs)) (sym (five_of ps d five))
    (masked_five (get_or ps 0 d) (get_or ps 1 d) (get_or ps 2 d) (get_or ps 3 d) (get_or ps 4 d) f.source f.destination f.source_port f.destination_port f.protocol)

-- five values within their masks
pub masked_fields : (vs ms : List ℕ) → ((k : ℕ) → k < 5 → slice_index vs k < 2 ^ width k) → ((k : ℕ) → k < 5 → slice_index ms k < 2 ^ width k)
    → ((k : ℕ) → k < 5 → bit_and (slice_index vs k) (slice_index ms k) ≡ slice_index vs k) → bit_and (key_of vs) (key_of ms) ≡ key_of vs
masked_fields vs ms small fits within =
    let v = slice_index vs in
    let m = slice_index ms in
    let turned = in_turn (v 0) (v 1) (v 2) (v 3) (v 4) in
    let pair = masked_joined 32 (v 0) (m 0) (v 1) (m 1) (small 1 (omega arith)) (fits 1 (omega arith)) (within 0 (omega arith)) (within 1 (omega arith)) in
    let three = masked_joined 16 _ _ (v 2) (m 2) (small 2 (omega arith)) (fits 2 (omega arith)) pair (within 2 (omega arith)) in
    let four = masked_joined 16 _ _ (v 3) (m 3) (small 3 (omega arith)) (fits 3 (omega arith)) three (within 3 (omega arith)) in
    let five = masked_joined 8 _ _ (v 4) (m 4) (small 4 (omega arith)) (fits 4 (omega arith)) four (within 4 (omega arith)) in
    ap (λ x. bit_and x (key_of ms)) turned
    ∙ ap (bit_and ((((v 0 * 2 ^ 32 + v 1) * 2 ^ 16 + v 2) * 2 ^ 16 + v 3) * 2 ^ 8 + v 4)) (in_turn (m 0) (m 1) (m 2) (m 3) (m 4))
    ∙ five ∙ sym turned

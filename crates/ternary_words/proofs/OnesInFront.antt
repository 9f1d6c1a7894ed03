-- A mask whose ones stand in front of its zeros: its lowest one is as high as it has zeros.
use Rattle.std.proofs.Common.{◌≡◌, ℕ, zero, suc, ◌+◌, ◌-◌, ◌*◌, ◌/◌, ◌%◌, ◌^◌, ◌<◌, ◌≤◌, min, ap, refl, sym, ◌∙◌, arith}
use Rattle.std.specs.Prelude.{bit_and}
use Rattle.std.specs.Int.{w32, trailing_zeros, bit_at}
use Rattle.std.proofs.lemmas.Nat.{pow_pos, pow-add, one_shl}
use Rattle.std.proofs.lemmas.Nat.Bits.{and_high, bit_at-trailing_zeros, bit_at-zero, bit_at_mask_below, bit_at_mask_inside}
use Rattle.std.proofs.Math.Nat.{mod-eq_of_lt, mul-mod_left, suc-mul, zero-mul}
use lib.Count.{count_trailing_zeros}
use Rattle.std.proofs.Math.Pow.{pow_mono}
use Rattle.ternary_words.proofs.PrefixMasks.{mask_below}

-- the ones from one place up to another
pub between : (l k : ℕ) → (2 ^ l - 1) * 2 ^ k ≡ 2 ^ (l + k) - 2 ^ k
between l k = let e = pow-add 2 l k in let p = pow_pos l in let t : (2 ^ l - 1) * 2 ^ k + 2 ^ k ≡ 2 ^ l * 2 ^ k = sym (suc-mul (2 ^ l - 1) (2 ^ k)) ∙ ap (λ n. n * 2 ^ k) (let s : suc (2 ^ l - 1) ≡ 2 ^ l = omega (arith, p) in s) in omega (arith, e, t)

lowest_place : (j k m : ℕ) → 0 < j → j + k ≤ 32 → m < 2 ^ 32 → m ≡ 2 ^ (j + k) - 2 ^ k → trailing_zeros w32 m ≡ k
lowest_place j k m some room small e =
    let inside : bit_at m k ≡ 1 = ap (λ n. bit_at n k) e ∙ bit_at_mask_inside k (j + k) k (omega arith) (omega arith) in
    let positive : m ≡ 0 → ⊥ = λ none. let z : bit_at m k ≡ 0 = ap (λ n. bit_at n k) none ∙ bit_at-zero k in omega (arith, inside, z) in
    let place = bit_at-trailing_zeros w32 m (omega (arith, positive)) small in
    let under : trailing_zeros w32 m < k → ⊥ = λ h. let z : bit_at m (trailing_zeros w32 m) ≡ 0 = ap (λ n. bit_at n (trailing_zeros w32 m)) e ∙ bit_at_mask_below k (j + k) (trailing_zeros w32 m) h in let o = place.1 in omega (arith, o, z) in
    let over : k < trailing_zeros w32 m → ⊥ = λ h. let z = place.2 k h in omega (arith, inside, z) in
    omega (arith, under, over)

lowest_zero : trailing_zeros w32 0 ≡ 32
unfolding count_trailing_zeros
lowest_zero = refl

-- the zeros of the mask
pub free_of : (w m l : ℕ) → w ≤ 32 → m < 2 ^ w → l ≤ w → m ≡ (2 ^ l - 1) * 2 ^ (w - l) → min (trailing_zeros w32 m) w ≡ w - l
free_of w m zero wide small le e =
    let none : m ≡ 0 = e ∙ (let z : (2 ^ 0 - 1) * 2 ^ (w - 0) ≡ 0 = zero-mul (2 ^ (w - 0)) in z) in
    let all : trailing_zeros w32 m ≡ 32 = ap (trailing_zeros w32) none ∙ lowest_zero in
    omega (arith, all)
free_of w m (suc l) wide small le e =
    let room : 2 ^ w ≤ 2 ^ 32 = pow_mono wide in
    let at = lowest_place (suc l) (w - suc l) m (omega arith) (omega arith) (omega (arith, room)) (e ∙ between (suc l) (w - suc l)) in
    omega (arith, at)

-- the code's shifts lose nothing
pub shifts : (l k : ℕ) → l + k ≤ 32 → ((1 * 2 ^ l % 2 ^ 64) - 1) * 2 ^ k % 2 ^ 64 ≡ (2 ^ l - 1) * 2 ^ k
shifts l k room =
    let one = one_shl l 64 (omega arith) in
    let wide : 2 ^ (l + k) ≤ 2 ^ 32 = pow_mono room in
    let below = mask_below l k in
    ap (λ n. (n - 1) * 2 ^ k % 2 ^ 64) one ∙ mod-eq_of_lt (omega (arith, wide, below))

pub low_zero : (l k v m : ℕ) → bit_and v m ≡ v → m ≡ (2 ^ l - 1) * 2 ^ k → v % 2 ^ k ≡ 0
low_zero l k v m e is =
    let whole : v ≡ v / 2 ^ k % 2 ^ l * 2 ^ k = sym e ∙ ap (bit_and v) (is ∙ between l k) ∙ and_high v l k in
    ap (λ n. n % 2 ^ k) whole ∙ mul-mod_left (v / 2 ^ k % 2 ^ l) (2 ^ k)

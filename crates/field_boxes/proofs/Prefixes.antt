-- Prefixes as intervals.
use Rattle.std.proofs.Common.{nat_le, nat_eq, ◌&&◌, ap, ◌∙◌, refl, Bool, true, false, eq-eqb, inl, inr, ◌≡◌, ℕ, ◌+◌, ◌-◌, ◌*◌, ◌/◌, ◌%◌, ◌^◌, ◌<◌, ◌≤◌, Fits, arith, sym, subst}
use Rattle.std.specs.Int.{w32}
use Rattle.std.proofs.lemmas.Nat.{pow_pos, pow-add, shr_split, shr_below, one_shl, mod_below, le-div, div_below}
use Rattle.std.proofs.Math.Nat.{mul-le-mul_right, add-mul, one-mul}
use Rattle.std.proofs.lemmas.Bool.{false≢true, leb-true, le-leb, and_parts}
use Rattle.std.proofs.lemmas.Bool.Decides.{eqb_tells}
use Rattle.std.proofs.Math.Pow.{pow_mono}

-- a multiple of a power, below a greater power, lies a whole step below it
pub whole_step : (l k v : ℕ) → v < 2 ^ (l + k) → v % 2 ^ k ≡ 0 → v + 2 ^ k ≤ 2 ^ (l + k)
whole_step l k v small low =
    let parts = shr_split v k in
    let below = shr_below v l k small in
    let steps : (v / 2 ^ k + 1) * 2 ^ k ≤ 2 ^ l * 2 ^ k = mul-le-mul_right (2 ^ k) (omega (arith, below)) in
    let top = pow-add 2 l k in
    rw top (omega (arith, parts, steps, low))

pub whole_step_within : (w l v : ℕ) → l ≤ w → v < 2 ^ w → v % 2 ^ (w - l) ≡ 0 → v + 2 ^ (w - l) ≤ 2 ^ w
whole_step_within w l v le small low =
    let sum : l + (w - l) ≡ w = omega arith in
    subst (λ n. v + 2 ^ (w - l) ≤ 2 ^ n) sum (whole_step l (w - l) v (subst (λ n. v < 2 ^ n) (sym sum) small) low)

pub top_fits : (w l v : ℕ) → w ≤ 32 → l ≤ w → v < 2 ^ w → v % 2 ^ (w - l) ≡ 0 → Fits w32 (v + ((1 * 2 ^ (w - l)) % 2 ^ 64 - 1))
top_fits w l v wide le small low =
    let one = one_shl (w - l) 64 (omega arith) in
    let step = whole_step_within w l v le small low in
    let positive = pow_pos (w - l) in
    let room : 2 ^ w ≤ 2 ^ 32 = pow_mono wide in
    rw one (omega (arith, step, positive, room))

-- a value that shares the high part with a multiple of a power lies in the step from there
in_step : (k p v : ℕ) → p % 2 ^ k ≡ 0 → v / 2 ^ k ≡ p / 2 ^ k → (p ≤ v) × (v ≤ p + (2 ^ k - 1))
in_step k p v low same =
    let pv = shr_split v k in
    let pp = shr_split p k in
    let equal : v / 2 ^ k * 2 ^ k ≡ p / 2 ^ k * 2 ^ k = ap (λ x. x * 2 ^ k) same in
    let below = mod_below v (2 ^ k) (pow_pos k) in
    (omega (arith, pv, pp, equal, below), omega (arith, pv, pp, equal, below))

same_high : (k p v : ℕ) → p % 2 ^ k ≡ 0 → p ≤ v → v ≤ p + (2 ^ k - 1) → v / 2 ^ k ≡ p / 2 ^ k
same_high k p v low above under =
    let pp = shr_split p k in
    let positive = pow_pos k in
    let least : p / 2 ^ k ≤ v / 2 ^ k = le-div (p / 2 ^ k) v (2 ^ k) positive (omega (arith, pp)) in
    let next : (p / 2 ^ k + 1) * 2 ^ k ≡ p / 2 ^ k * 2 ^ k + 2 ^ k = add-mul (p / 2 ^ k) 1 (2 ^ k) ∙ ap (λ x. p / 2 ^ k * 2 ^ k + x) (one-mul (2 ^ k)) in
    let most : v / 2 ^ k < p / 2 ^ k + 1 = div_below v (2 ^ k) (p / 2 ^ k + 1) positive (omega (arith, pp, next)) in
    omega (arith, least, most)

by_test : (k p v : ℕ) → p % 2 ^ k ≡ 0 → (t : Bool) → (nat_le p v && nat_le v (p + (2 ^ k - 1))) ≡ t → t ≡ nat_eq (v / 2 ^ k) (p / 2 ^ k)
by_test k p v low true h =
    let parts = and_parts (nat_le p v) (nat_le v (p + (2 ^ k - 1))) h in
    sym (eq-eqb (v / 2 ^ k) (p / 2 ^ k) (same_high k p v low (leb-true p v parts.0) (leb-true v (p + (2 ^ k - 1)) parts.1)))
by_test k p v low false h =
    elim (eqb_tells (v / 2 ^ k) (p / 2 ^ k)) [
      | inl t ↦ let s = in_step k p v low t.1 in absurd (false≢true (sym h ∙ rw (le-leb p v s.0, le-leb v (p + (2 ^ k - 1)) s.1) refl))
      | inr t ↦ sym t.0
    ]

-- the interval of a prefix holds the values that the prefix holds
pub interval-prefix : (k p v : ℕ) → p % 2 ^ k ≡ 0 → (nat_le p v && nat_le v (p + (2 ^ k - 1))) ≡ nat_eq (v / 2 ^ k) (p / 2 ^ k)
interval-prefix k p v low = by_test k p v low (nat_le p v && nat_le v (p + (2 ^ k - 1))) refl

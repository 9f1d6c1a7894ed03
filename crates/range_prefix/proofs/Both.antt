-- The longest prefix that holds two values: its free bits are those from the first in which they differ.
use Rattle.std.proofs.Common.{◌≡◌, ℕ, suc, ◌+◌, ◌-◌, ◌*◌, ◌/◌, ◌%◌, ◌^◌, ◌<◌, ◌≤◌, true, nat_eq, ap, arith, inl, inr, bit_xor, eq-eqb, refl, subst, sym, ◌∙◌}
use Rattle.std.specs.Int.Count.{count_leading_zeros}
use Rattle.std.proofs.Math.Pow.{pow_mono}
use Rattle.std.proofs.lemmas.Bool.{cases_lt}
use Rattle.std.proofs.lemmas.Nat.{div_below, leading_length, mod_low, one_shl, pow_pos, shl-shr, shr_split, xor_lt, xor_shr}
use Rattle.std.proofs.lemmas.Nat.Bits.{bit_at-lt, bit_at-zero, bit_at_xor, same_from_bits}
use Rattle.field_boxes.specs.declared.prefix.Prefix.{Prefix}
use Rattle.field_boxes.specs.Headline.Prefix.{FitsWidth, prefix_holds}
use Rattle.field_boxes.proofs.Powers.{double}

-- the bits from the first on in which two values differ
abbrev pub free_bits : ℕ → ℕ → ℕ
free_bits lo hi = 32 - count_leading_zeros 32 (bit_xor lo hi)

leading : (width a : ℕ) → width ≤ 32 → a < 2 ^ width → (32 - count_leading_zeros 32 a ≤ width) × (a < 2 ^ (32 - count_leading_zeros 32 a))
leading width a wide small =
    let room : 2 ^ width ≤ 2 ^ 32 = pow_mono wide in
    let bits = leading_length 32 a (omega arith) in
    let m = bits.0 in
    let free : m ≡ 32 - count_leading_zeros 32 a = omega (arith, bits.1) in
    let short : m ≤ width =
    elim (cases_lt width m) [
      | inr within ↦ within
      | inl over ↦
          let next : suc width ≤ m = omega (arith, over) in
          let more : 2 ^ suc width ≤ 2 ^ m = pow_mono next in
          absurd (omega (arith, more, double width, bits.3, small))
    ] in
    (subst (λ n. n ≤ width) free short, subst (λ n. a < 2 ^ n) free bits.2)

same_from_xor : (a b : ℕ) → bit_xor a b ≡ 0 → a ≡ b
same_from_xor a b none = same_from_bits a b (λ i. omega (arith, sym (bit_at_xor a b i) ∙ ap (λ n. n / 2 ^ i % 2) none ∙ bit_at-zero i, bit_at-lt a i, bit_at-lt b i))

same_above : (free lo hi : ℕ) → bit_xor lo hi < 2 ^ free → lo / 2 ^ free ≡ hi / 2 ^ free
same_above free lo hi small =
    let one : bit_xor lo hi < 1 * 2 ^ free = omega (arith, small) in
    let none : bit_xor lo hi / 2 ^ free ≡ 0 = omega (arith, div_below (bit_xor lo hi) (2 ^ free) 1 (pow_pos free) one) in
    same_from_xor (lo / 2 ^ free) (hi / 2 ^ free) (sym (xor_shr lo hi free) ∙ none)

-- the prefix of the values that agree with lo above its free bits
abbrev pub prefix_above : ℕ → ℕ → ℕ → ℕ → Prefix
prefix_above width free size lo = record { value = lo / size * size; len = width - free }

prefix_fits : (width free lo : ℕ) → width ≤ 32 → free ≤ width → lo < 2 ^ width → FitsWidth width (prefix_above width free (2 ^ free) lo)
prefix_fits width free lo wide short small =
    let parts = shr_split lo free in
    let e : free ≡ width - (width - free) = omega arith in
    let none : lo / 2 ^ free * 2 ^ free ≡ lo / 2 ^ free * 2 ^ free + 0 = omega arith in
    let aligned : lo / 2 ^ free * 2 ^ free % 2 ^ free ≡ 0 = ap (λ x. x % 2 ^ free) none ∙ mod_low (lo / 2 ^ free) free 0 (pow_pos free) in
    record { wide = wide; len = omega arith; small = omega (arith, parts, small); low = subst (λ m. lo / 2 ^ free * 2 ^ free % 2 ^ m ≡ 0) e aligned }

prefix_has : (width free lo v : ℕ) → free ≤ width → v / 2 ^ free ≡ lo / 2 ^ free → prefix_holds width (prefix_above width free (2 ^ free) lo) v ≡ true
prefix_has width free lo v short same =
    let e : free ≡ width - (width - free) = omega arith in
    subst (λ m. nat_eq (v / 2 ^ m) (lo / 2 ^ free * 2 ^ free / 2 ^ m) ≡ true) e (eq-eqb (v / 2 ^ free) (lo / 2 ^ free * 2 ^ free / 2 ^ free) (same ∙ sym (shl-shr (lo / 2 ^ free) free)))

-- what the code computes, where `1 << free` is 2 ^ free
pub record IsLongest (width lo hi : ℕ) (p : Prefix) : Type 0 where
  pub fits : FitsWidth width p
  pub holds_lo : prefix_holds width p lo ≡ true
  pub holds_hi : prefix_holds width p hi ≡ true

pub few_free : (width lo hi : ℕ) → width ≤ 32 → lo < 2 ^ width → hi < 2 ^ width → free_bits lo hi ≤ width
few_free width lo hi wide low high = (leading width (bit_xor lo hi) wide (xor_lt width lo hi low high)).0

pub longest : (width lo hi : ℕ) → width ≤ 32 → lo < 2 ^ width → hi < 2 ^ width → IsLongest width lo hi (prefix_above width (free_bits lo hi) ((1 * 2 ^ free_bits lo hi) % 2 ^ 64) lo)
longest width lo hi wide low high =
    let free = free_bits lo hi in
    let short = few_free width lo hi wide low high in
    let above = (leading width (bit_xor lo hi) wide (xor_lt width lo hi low high)).1 in
    let size : (1 * 2 ^ free) % 2 ^ 64 ≡ 2 ^ free = one_shl free 64 (omega (arith, short, wide)) in
    subst (λ s. IsLongest width lo hi (prefix_above width free s lo)) (sym size)
    (record {
      fits = prefix_fits width free lo wide short low;
      holds_lo = prefix_has width free lo lo short refl;
      holds_hi = prefix_has width free lo hi short (sym (same_above free lo hi above));
    })

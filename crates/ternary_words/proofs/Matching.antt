-- Matching a word is one test on numbers: no bit of the mask stands where the key and the value differ.
use Rattle.std.proofs.Common.{◌≡◌, ℕ, zero, suc, ◌+◌, ◌*◌, ◌/◌, ◌%◌, ◌^◌, ◌<◌, ap, refl, sym, ◌∙◌, arith, inl, inr, eq-eqb}
use Rattle.std.specs.Prelude.{nat_eq, ◌&&◌, bit_and, bit_xor}
use Rattle.std.proofs.lemmas.Nat.{pow_pos, and_shr, xor_shr, and_mod, xor_mod, and_le_r, mod-pow-add}
use Rattle.std.proofs.Math.Nat.{mod-eq_of_lt}
use Rattle.std.proofs.Math.Numerals.{one-add}
use Rattle.std.proofs.lemmas.Bool.Decides.{eqb_tells}
use Rattle.field_boxes.specs.Headline.Bits.{bits}
use Rattle.ternary_words.specs.Headline.Word.{agrees}
use Rattle.ternary_words.specs.Word.{trit, trits, trit_agrees}

-- one bit, where each of the three is 0 or 1
bit_agrees : (m v k : ℕ) → m < 2 → v < 2 → k < 2 → trit_agrees (trit (nat_eq m 1) (nat_eq v 1)) (nat_eq k 1) ≡ nat_eq (bit_and (bit_xor k v) m) 0
bit_agrees zero zero zero a b c = refl
bit_agrees zero zero (suc zero) a b c = refl
bit_agrees zero (suc zero) zero a b c = refl
bit_agrees zero (suc zero) (suc zero) a b c = refl
bit_agrees (suc zero) zero zero a b c = refl
bit_agrees (suc zero) zero (suc zero) a b c = refl
bit_agrees (suc zero) (suc zero) zero a b c = refl
bit_agrees (suc zero) (suc zero) (suc zero) a b c = refl
bit_agrees (suc (suc m)) v k a b c = absurd (omega arith)
bit_agrees zero (suc (suc v)) k a b c = absurd (omega arith)
bit_agrees (suc zero) (suc (suc v)) k a b c = absurd (omega arith)
bit_agrees zero zero (suc (suc k)) a b c = absurd (omega arith)
bit_agrees zero (suc zero) (suc (suc k)) a b c = absurd (omega arith)
bit_agrees (suc zero) zero (suc (suc k)) a b c = absurd (omega arith)
bit_agrees (suc zero) (suc zero) (suc (suc k)) a b c = absurd (omega arith)

-- a bit and a lower part are 0 where both are
none_set : (n a b : ℕ) → a < 2 → nat_eq a 0 && nat_eq b 0 ≡ nat_eq (a * 2 ^ n + b) 0
none_set n zero b h = ap (λ x. nat_eq x 0) (let e : b ≡ 0 * 2 ^ n + b = omega arith in e)
none_set n (suc zero) b h = let p = pow_pos n in
    elim (eqb_tells (1 * 2 ^ n + b) 0) [ inl t ↦ let e = t.1 in absurd (omega (arith, p, e)) | inr t ↦ sym t.0 ]
none_set n (suc (suc a)) b h = absurd (omega arith)

-- the highest of n + 1 bits
top_of : (n m v k : ℕ) → bit_and (bit_xor k v) m / 2 ^ n % 2 ≡ bit_and (bit_xor (k / 2 ^ n % 2) (v / 2 ^ n % 2)) (m / 2 ^ n % 2)
top_of n m v k =
    ap (λ x. x % 2) (and_shr (bit_xor k v) m n ∙ ap (λ x. bit_and x (m / 2 ^ n)) (xor_shr k v n))
    ∙ and_mod (bit_xor (k / 2 ^ n) (v / 2 ^ n)) (m / 2 ^ n) 1
    ∙ ap (λ x. bit_and x (m / 2 ^ n % 2)) (xor_mod (k / 2 ^ n) (v / 2 ^ n) 1)

pub split_top : (n x : ℕ) → x % 2 ^ suc n ≡ (x / 2 ^ n % 2) * 2 ^ n + x % 2 ^ n
split_top n x = ap (λ m. x % 2 ^ m) (sym (one-add n)) ∙ mod-pow-add x 1 n

-- of n bits
pub agrees-number : (n m v k : ℕ) → agrees (trits (bits n m) (bits n v)) (bits n k) ≡ nat_eq (bit_and (bit_xor k v) m % 2 ^ n) 0
agrees-number zero m v k = let x = bit_and (bit_xor k v) m in let e : x % 1 ≡ 0 = omega arith in sym (eq-eqb (x % 1) 0 e)
agrees-number (suc n) m v k =
    let x = bit_and (bit_xor k v) m in
    let bit : trit_agrees (trit (nat_eq (m / 2 ^ n % 2) 1) (nat_eq (v / 2 ^ n % 2) 1)) (nat_eq (k / 2 ^ n % 2) 1) ≡ nat_eq (x / 2 ^ n % 2) 0 =
    bit_agrees (m / 2 ^ n % 2) (v / 2 ^ n % 2) (k / 2 ^ n % 2) (omega arith) (omega arith) (omega arith) ∙ ap (λ y. nat_eq y 0) (sym (top_of n m v k)) in
    ap (λ b. b && agrees (trits (bits n m) (bits n v)) (bits n k)) bit
    ∙ ap (λ b. nat_eq (x / 2 ^ n % 2) 0 && b) (agrees-number n m v k)
    ∙ none_set n (x / 2 ^ n % 2) (x % 2 ^ n) (omega arith)
    ∙ ap (λ y. nat_eq y 0) (sym (split_top n x))

-- of a mask of n bits
pub agrees-mask : (n m v k : ℕ) → m < 2 ^ n → nat_eq (bit_and (bit_xor k v) m) 0 ≡ agrees (trits (bits n m) (bits n v)) (bits n k)
agrees-mask n m v k h =
    let x = bit_and (bit_xor k v) m in
    let small : x < 2 ^ n = omega (arith, and_le_r (bit_xor k v) m) in
    ap (λ y. nat_eq y 0) (sym (mod-eq_of_lt small)) ∙ sym (agrees-number n m v k)

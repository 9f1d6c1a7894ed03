-- The bits of a word's value and mask, trit by trit.
use Rattle.std.proofs.Common.{◌≡◌, ◌∷◌, ◌++◌, ℕ, zero, suc, ◌/◌, ◌%◌, ◌^◌, ◌<◌, Bool, List, [], length, map, refl, ap, sym, ◌∙◌, arith}
use Rattle.std.specs.Prelude.{bit_and, nat_eq}
use Rattle.std.proofs.lemmas.Nat.{and_shr, and_mod}
use Rattle.field_boxes.specs.Headline.Bits.{bits}
use Rattle.ternary_words.specs.Word.{trit, trits, value_bit, mask_bit}

-- one bit of a value within its mask
value_is : (m v : ℕ) → m < 2 → v < 2 → bit_and v m ≡ v → value_bit (trit (nat_eq m 1) (nat_eq v 1)) ≡ nat_eq v 1
value_is zero zero a b e = refl
value_is zero (suc zero) a b e = absurd cc
value_is (suc zero) zero a b e = refl
value_is (suc zero) (suc zero) a b e = refl
value_is (suc (suc m)) v a b e = absurd (omega arith)
value_is zero (suc (suc v)) a b e = absurd (omega arith)
value_is (suc zero) (suc (suc v)) a b e = absurd (omega arith)

mask_is : (m v : ℕ) → m < 2 → v < 2 → mask_bit (trit (nat_eq m 1) (nat_eq v 1)) ≡ nat_eq m 1
mask_is zero v a b = refl
mask_is (suc zero) v a b = refl
mask_is (suc (suc m)) v a b = absurd (omega arith)

pub shifted_within : (n m v : ℕ) → bit_and v m ≡ v → bit_and (v / 2 ^ n) (m / 2 ^ n) ≡ v / 2 ^ n
shifted_within n m v e = sym (and_shr v m n) ∙ ap (λ x. x / 2 ^ n) e

bit_within : (n m v : ℕ) → bit_and v m ≡ v → bit_and (v / 2 ^ n % 2) (m / 2 ^ n % 2) ≡ v / 2 ^ n % 2
bit_within n m v e = sym (and_mod (v / 2 ^ n) (m / 2 ^ n) 1) ∙ ap (λ x. x % 2) (shifted_within n m v e)

pub value-bits : (n m v : ℕ) → bit_and v m ≡ v → map value_bit (trits (bits n m) (bits n v)) ≡ bits n v
value-bits zero m v e = refl
value-bits (suc n) m v e =
    ap (λ b. b ∷ map value_bit (trits (bits n m) (bits n v))) (value_is (m / 2 ^ n % 2) (v / 2 ^ n % 2) (omega arith) (omega arith) (bit_within n m v e))
    ∙ ap (λ bs. nat_eq (v / 2 ^ n % 2) 1 ∷ bs) (value-bits n m v e)

pub mask-bits : (n m v : ℕ) → map mask_bit (trits (bits n m) (bits n v)) ≡ bits n m
mask-bits zero m v = refl
mask-bits (suc n) m v =
    ap (λ b. b ∷ map mask_bit (trits (bits n m) (bits n v))) (mask_is (m / 2 ^ n % 2) (v / 2 ^ n % 2) (omega arith) (omega arith))
    ∙ ap (λ bs. nat_eq (m / 2 ^ n % 2) 1 ∷ bs) (mask-bits n m v)

pub trits-append : (ms ns vs us : List Bool) → length ms ≡ length vs → trits (ms ++ ns) (vs ++ us) ≡ trits ms vs ++ trits ns us
trits-append [] ns [] us e = refl
trits-append [] ns (v ∷ vs) us e = absurd (omega arith)
trits-append (m ∷ ms) ns [] us e = absurd (omega arith)
trits-append (m ∷ ms) ns (v ∷ vs) us e = ap (λ ts. trit m v ∷ ts) (trits-append ms ns vs us (omega arith))

pub length-trits : (ms vs : List Bool) → length ms ≡ length vs → length (trits ms vs) ≡ length ms
length-trits [] vs e = refl
length-trits (m ∷ ms) [] e = absurd (omega arith)
length-trits (m ∷ ms) (v ∷ vs) e = ap suc (length-trits ms vs (omega arith))

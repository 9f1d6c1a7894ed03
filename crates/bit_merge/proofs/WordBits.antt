-- Words as two numbers: which can be joined, and what their join is.
use Rattle.std.proofs.Common.{◌≡◌, ◌∷◌, ◌⊎◌, ℕ, zero, suc, ◌+◌, ◌*◌, ◌%◌, ◌^◌, ◌<◌, ◌≤◌, List, min, length, ap, refl, sym, subst, ◌∙◌, arith, inl, inr, nat_eq, ◌&&◌, not, cond, bit_and, bit_xor}
use Rattle.std.specs.Bool.{beq}
use Rattle.std.specs.Int.{bit_at}
use Rattle.std.specs.Int.Bits.{xor_self, xor_zero_l, xor_assoc, and_self}
use Rattle.std.proofs.lemmas.Nat.{and_comm, and_assoc, and_le_r, xor_lt, mod-pow-add}
use Rattle.std.proofs.lemmas.Nat.Bits.{bit_at_and, bit_at_xor, bit_at-lt, bit_at-zero, bit_at-pow_same, bit_at-pow_other, same_from_bits}
use Rattle.std.proofs.Math.Nat.{mod-eq_of_lt}
use Rattle.std.proofs.Math.Numerals.{one-add}
use Rattle.std.proofs.lemmas.Bool.{cases_eq}
use Rattle.std.proofs.lemmas.Bool.Decides.{eqb_tells, nat_tests}
use Rattle.field_boxes.specs.Headline.Bits.{bits}
use Rattle.field_boxes.proofs.Bits.{length-bits}
use Rattle.ternary_words.specs.Headline.Word.{Trit}
use Rattle.ternary_words.specs.Word.{trits}
use Rattle.bit_merge.specs.Merge.{CanJoin, join}
use Rattle.bit_merge.specs.Near.{IsNear}
use Rattle.bit_merge.proofs.Masks.{unlike_bits, without_bits, both_bits, ones, can-join-masks, masks-can-join, join-masks, clear-masks}
use Rattle.ternary_words.proofs.Parted.{same_bits}

-- one bit of each
both_bit : (a b : ℕ) → a < 2 → b < 2 → (nat_eq a 1 && nat_eq b 1) ≡ nat_eq (min a b) 1
both_bit a b h k = grind (arith, nat_tests)

unlike_bit : (a b : ℕ) → a < 2 → b < 2 → not (beq (nat_eq a 1) (nat_eq b 1)) ≡ nat_eq ((a + b) % 2) 1
unlike_bit a b h k = grind (arith, nat_tests)

without_bit : (m u : ℕ) → m < 2 → u < 2 → min m u ≡ u → (nat_eq m 1 && not (nat_eq u 1)) ≡ nat_eq ((m + u) % 2) 1
without_bit m u h k e = grind (arith, nat_tests)

-- the bits of a & b
both-number : (n a b : ℕ) → both_bits (bits n a) (bits n b) ≡ bits n (bit_and a b)
both-number zero a b = refl
both-number (suc n) a b =
    let e = both_bit (bit_at a n) (bit_at b n) (bit_at-lt a n) (bit_at-lt b n) ∙ ap (λ x. nat_eq x 1) (sym (bit_at_and a b n)) in
    ap (λ t. t ∷ both_bits (bits n a) (bits n b)) e ∙ ap (λ l. nat_eq (bit_at (bit_and a b) n) 1 ∷ l) (both-number n a b)

-- the bits of m & (a ^ b)
unlike-number : (n m a b : ℕ) → unlike_bits (bits n m) (bits n a) (bits n b) ≡ bits n (bit_and m (bit_xor a b))
unlike-number zero m a b = refl
unlike-number (suc n) m a b =
    let u = bit_and m (bit_xor a b) in
    let d = unlike_bit (bit_at a n) (bit_at b n) (bit_at-lt a n) (bit_at-lt b n) ∙ ap (λ x. nat_eq x 1) (sym (bit_at_xor a b n)) in
    let e = ap (λ t. nat_eq (bit_at m n) 1 && t) d ∙ both_bit (bit_at m n) (bit_at (bit_xor a b) n) (bit_at-lt m n) (bit_at-lt (bit_xor a b) n)
    ∙ ap (λ x. nat_eq x 1) (sym (bit_at_and m (bit_xor a b) n)) in
    ap (λ t. t ∷ unlike_bits (bits n m) (bits n a) (bits n b)) e ∙ ap (λ l. nat_eq (bit_at u n) 1 ∷ l) (unlike-number n m a b)

-- the bits of m ^ u, where u lies within m
without-number : (n m u : ℕ) → bit_and m u ≡ u → without_bits (bits n m) (bits n u) ≡ bits n (bit_xor m u)
without-number zero m u h = refl
without-number (suc n) m u h =
    let within : min (bit_at m n) (bit_at u n) ≡ bit_at u n = sym (bit_at_and m u n) ∙ ap (λ x. bit_at x n) h in
    let e = without_bit (bit_at m n) (bit_at u n) (bit_at-lt m n) (bit_at-lt u n) within ∙ ap (λ x. nat_eq x 1) (sym (bit_at_xor m u n)) in
    ap (λ t. t ∷ without_bits (bits n m) (bits n u)) e ∙ ap (λ l. nat_eq (bit_at (bit_xor m u) n) 1 ∷ l) (without-number n m u h)

within_bit : (a b m : ℕ) → a < 2 → b < 2 → m < 2 → min a m ≡ a → min b m ≡ b → min ((a + b) % 2) m ≡ (a + b) % 2
within_bit a b m ha hb hm e f = grind (arith, nat_tests)

-- two numbers within a mask
pub xor_within : (a b m : ℕ) → bit_and a m ≡ a → bit_and b m ≡ b → bit_and (bit_xor a b) m ≡ bit_xor a b
xor_within a b m e f = same_from_bits (bit_and (bit_xor a b) m) (bit_xor a b) (λ i.
    let one : min (bit_at a i) (bit_at m i) ≡ bit_at a i = sym (bit_at_and a m i) ∙ ap (λ x. bit_at x i) e in
    let other : min (bit_at b i) (bit_at m i) ≡ bit_at b i = sym (bit_at_and b m i) ∙ ap (λ x. bit_at x i) f in
    bit_at_and (bit_xor a b) m i ∙ ap (λ x. min x (bit_at m i)) (bit_at_xor a b i)
    ∙ within_bit (bit_at a i) (bit_at b i) (bit_at m i) (bit_at-lt a i) (bit_at-lt b i) (bit_at-lt m i) one other ∙ sym (bit_at_xor a b i))

-- numbers of no one or of one one
split_top : (n x : ℕ) → x % 2 ^ suc n ≡ bit_at x n * 2 ^ n + x % 2 ^ n
split_top n x = ap (λ m. x % 2 ^ m) (sym (one-add n)) ∙ mod-pow-add x 1 n

top_zero : (n x : ℕ) → bit_at x n ≡ 0 → x % 2 ^ suc n ≡ x % 2 ^ n
top_zero n x e = split_top n x ∙ ap (λ t. t * 2 ^ n + x % 2 ^ n) e ∙ (let z : 0 * 2 ^ n + x % 2 ^ n ≡ x % 2 ^ n = omega arith in z)

none : (n u : ℕ) → ones (bits n u) ≤ 0 → u % 2 ^ n ≡ 0
none zero u h = omega arith
none (suc n) u h =
    elim (cases_eq (bit_at u n) 0) [
      | inl e ↦ top_zero n u e ∙ none n u (rw e at h)
      | inr other ↦
          let e : bit_at u n ≡ 1 = omega (arith, other, bit_at-lt u n) in
          let k = rw e at h in absurd (omega (arith, k))
    ]

abbrev AtMostOne : ℕ → ℕ → Type 0
AtMostOne n u = (u % 2 ^ n ≡ 0) ⊎ ((i : ℕ) × (i < n) × (u % 2 ^ n ≡ 2 ^ i))

low_one : (n u : ℕ) → bit_at u n ≡ 0 → AtMostOne n u → AtMostOne (suc n) u
low_one n u e (inl r) = inl (top_zero n u e ∙ r)
low_one n u e (inr r) = inr (r.0, omega (arith, r.1), top_zero n u e ∙ r.2)

few : (n u : ℕ) → ones (bits n u) ≤ 1 → AtMostOne n u
few zero u h = inl (omega arith)
few (suc n) u h =
    elim (cases_eq (bit_at u n) 0) [
      | inl e ↦ low_one n u e (few n u (rw e at h))
      | inr other ↦
          let e : bit_at u n ≡ 1 = omega (arith, other, bit_at-lt u n) in
          let k = rw e at h in
          let r = none n u (omega (arith, k)) in
          inr (n, omega arith, split_top n u ∙ ap (λ t. t * 2 ^ n + u % 2 ^ n) e ∙ (let z : 1 * 2 ^ n + u % 2 ^ n ≡ 2 ^ n = omega (arith, r) in z))
    ]

zeros : (n u : ℕ) → ((k : ℕ) → k < n → bit_at u k ≡ 0) → ones (bits n u) ≡ 0
zeros zero u h = refl
zeros (suc n) u h =
    ap (λ t. cond (nat_eq t 1) (suc (ones (bits n u))) (ones (bits n u))) (h n (omega arith)) ∙ zeros n u (λ k less. h k (omega (arith, less)))

one_of : (n i : ℕ) → ones (bits n (2 ^ i)) ≤ 1
one_of zero i = omega arith
one_of (suc n) i =
    elim (eqb_tells n i) [
      | inl t ↦
          let e = t.1 in
          let rest : ones (bits n (2 ^ i)) ≡ 0 = zeros n (2 ^ i) (λ k less. let ne : k ≡ i → ⊥ = (λ h. omega (arith, h, e, less)) in bit_at-pow_other i k ne) in
          let top : bit_at (2 ^ i) n ≡ 1 = ap (bit_at (2 ^ i)) e ∙ bit_at-pow_same i in
          let all : ones (bits (suc n) (2 ^ i)) ≡ suc (ones (bits n (2 ^ i))) = ap (λ t. cond (nat_eq t 1) (suc (ones (bits n (2 ^ i)))) (ones (bits n (2 ^ i)))) top in
          omega (arith, all, rest)
      | inr t ↦
          let top : bit_at (2 ^ i) n ≡ 0 = bit_at-pow_other i n t.1 in
          let all : ones (bits (suc n) (2 ^ i)) ≡ ones (bits n (2 ^ i)) = ap (λ t. cond (nat_eq t 1) (suc (ones (bits n (2 ^ i)))) (ones (bits n (2 ^ i)))) top in
          omega (arith, all, one_of n i)
    ]

-- what two values within a mask differ in lies within it
pub differ-within : (m a b : ℕ) → bit_and a m ≡ a → bit_and b m ≡ b → bit_and m (bit_xor a b) ≡ bit_xor a b
differ-within m a b h k =
    same_from_bits (bit_and m (bit_xor a b)) (bit_xor a b) (λ i.
    let x : min (bit_at a i) (bit_at m i) ≡ bit_at a i = sym (bit_at_and a m i) ∙ ap (λ x. bit_at x i) h in
    let y : min (bit_at b i) (bit_at m i) ≡ bit_at b i = sym (bit_at_and b m i) ∙ ap (λ x. bit_at x i) k in
    omega (arith, x, y, bit_at_and m (bit_xor a b) i, bit_at_xor a b i, bit_at-lt m i, bit_at-lt a i, bit_at-lt b i))

-- a ^ (a ^ u) is u
pub twice : (a u : ℕ) → bit_xor a (bit_xor a u) ≡ u
twice a u = sym (xor_assoc a a u) ∙ ap (λ x. bit_xor x u) (xor_self a) ∙ xor_zero_l u

abbrev pub word : ℕ → ℕ → ℕ → List Trit
word n m a = trits (bits n m) (bits n a)

same_lengths : (n m a : ℕ) → length (bits n m) ≡ length (bits n a)
same_lengths n m a = length-bits n m ∙ sym (length-bits n a)

near_step : (n m a b u : ℕ) → u < 2 ^ n → bit_xor a b ≡ u → bit_and m u ≡ u → AtMostOne n u → (b ≡ a) ⊎ ((i : ℕ) × (i < n) × (bit_and m (2 ^ i) ≡ 2 ^ i) × (b ≡ bit_xor a (2 ^ i)))
near_step n m a b u small e w (inl h) =
    let z : u ≡ 0 = sym (mod-eq_of_lt small) ∙ h in
    inl (sym (twice a b) ∙ ap (bit_xor a) (e ∙ z ∙ sym (xor_self a)) ∙ twice a a)
near_step n m a b u small e w (inr h) =
    let p : u ≡ 2 ^ h.0 = sym (mod-eq_of_lt small) ∙ h.2 in
    inr (h.0, h.1, ap (bit_and m) (sym p) ∙ w ∙ p, sym (twice a b) ∙ ap (bit_xor a) (e ∙ p))

-- words that can be joined are near
pub join-near : (n m a k b : ℕ) → m < 2 ^ n → k < 2 ^ n → bit_and a m ≡ a → bit_and b k ≡ b → CanJoin (word n m a) (word n k b) → IsNear n m a k b
join-near n m a k b hm hk ha hb h =
    let j = can-join-masks (bits n m) (bits n k) (bits n a) (bits n b) (same_lengths n m a) (same_lengths n k b) h in
    let e : m ≡ k = same_bits n m k hm hk j.0 in
    let b_in : bit_and b m ≡ b = ap (bit_and b) e ∙ hb in
    let w = differ-within m a b ha b_in in
    let one : ones (bits n (bit_xor a b)) ≤ 1 =
    subst (λ x. ones (bits n x) ≤ 1) w (subst (λ l. ones l ≤ 1) (unlike-number n m a b) j.1) in
    let small : bit_xor a b < 2 ^ n = omega (arith, and_le_r (bit_xor a b) m, and_comm m (bit_xor a b), w, hm) in
    (sym e, near_step n m a b (bit_xor a b) small refl w (few n (bit_xor a b) one))

can-by-ones : (n m a b : ℕ) → ones (bits n (bit_and m (bit_xor a b))) ≤ 1 → CanJoin (word n m a) (word n m b)
can-by-ones n m a b h =
    masks-can-join (bits n m) (bits n a) (bits n b) (same_lengths n m a) (same_lengths n m b) (subst (λ l. ones l ≤ 1) (sym (unlike-number n m a b)) h)

-- and near words can be joined: a word with itself
pub joins-itself : (n m a : ℕ) → CanJoin (word n m a) (word n m a)
joins-itself n m a =
    let u : bit_and m (bit_xor a a) ≡ 0 = ap (bit_and m) (xor_self a) ∙ (let le = and_le_r m 0 in omega (arith, le)) in
    can-by-ones n m a a (subst (λ x. ones (bits n x) ≤ 1) (sym u) (let z = zeros n 0 (λ k less. bit_at-zero k) in omega (arith, z)))

-- and with the word that has another bit at a place of the mask
pub joins-flipped : (n m a i : ℕ) → bit_and m (2 ^ i) ≡ 2 ^ i → CanJoin (word n m a) (word n m (bit_xor a (2 ^ i)))
joins-flipped n m a i h =
    let u : bit_and m (bit_xor a (bit_xor a (2 ^ i))) ≡ 2 ^ i = ap (bit_and m) (twice a (2 ^ i)) ∙ h in
    can-by-ones n m a (bit_xor a (2 ^ i)) (subst (λ x. ones (bits n x) ≤ 1) (sym u) (one_of n i))

-- the mask of the join has no bit in which they differ
pub join-number : (n m a b : ℕ) → bit_and a m ≡ a → bit_and b m ≡ b →
    join (word n m a) (word n m b) ≡ word n (bit_xor m (bit_xor a b)) (bit_and a (bit_xor m (bit_xor a b)))
join-number n m a b ha hb =
    let u = bit_xor a b in
    let w = differ-within m a b ha hb in
    let k = bit_xor m u in
    join-masks (bits n m) (bits n a) (bits n b) (same_lengths n m a) (same_lengths n m b)
    ∙ ap (λ l. trits (without_bits (bits n m) l) (bits n a)) (unlike-number n m a b ∙ ap (bits n) w)
    ∙ ap (λ l. trits l (bits n a)) (without-number n m u w)
    ∙ clear-masks (bits n k) (bits n a)
    ∙ ap (trits (bits n k)) (both-number n k a ∙ ap (bits n) (and_comm k a))

pub join-masked : (a k : ℕ) → bit_and (bit_and a k) k ≡ bit_and a k
join-masked a k = and_assoc k a k ∙ ap (bit_and a) (and_self k)

-- the second word of two that can be joined has the first one's mask
pub one-mask : (n m a k b : ℕ) → m < 2 ^ n → k < 2 ^ n → bit_and a m ≡ a → bit_and b k ≡ b → CanJoin (word n m a) (word n k b) → k ≡ m
one-mask n m a k b hm hk ha hb h = (join-near n m a k b hm hk ha hb h).0

pub join-is : (n m a k b : ℕ) → m < 2 ^ n → k < 2 ^ n → bit_and a m ≡ a → bit_and b k ≡ b → CanJoin (word n m a) (word n k b) →
    word n (bit_xor m (bit_xor a b)) (bit_and a (bit_xor m (bit_xor a b))) ≡ join (word n m a) (word n k b)
join-is n m a k b hm hk ha hb h =
    let e = one-mask n m a k b hm hk ha hb h in
    let b_in : bit_and b m ≡ b = ap (bit_and b) (sym e) ∙ hb in
    sym (join-number n m a b ha b_in) ∙ ap (λ x. join (word n m a) (word n x b)) (sym e)

pub join-fits : (n m a k b : ℕ) → m < 2 ^ n → k < 2 ^ n → bit_and a m ≡ a → bit_and b k ≡ b → CanJoin (word n m a) (word n k b) → bit_xor m (bit_xor a b) < 2 ^ n
join-fits n m a k b hm hk ha hb h =
    let b_in : bit_and b m ≡ b = ap (bit_and b) (sym (one-mask n m a k b hm hk ha hb h)) ∙ hb in
    xor_lt n m (bit_xor a b) hm (xor_lt n a b (omega (arith, and_le_r a m, ha, hm)) (omega (arith, and_le_r b m, b_in, hm)))

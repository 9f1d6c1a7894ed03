-- Words of which the values differ in at most one of the lowest bits, and words that can be joined.
use Rattle.std.proofs.Common.{◌≡◌, ◌⊎◌, ℕ, ◌+◌, ◌*◌, ◌^◌, ap, sym, subst, ◌∙◌, arith, inl, inr, bit_and, bit_xor, pow_pos}
use Rattle.std.specs.Int.{bit_at}
use Rattle.std.proofs.lemmas.Bool.{cases_eq, cases_lt}
use Rattle.std.proofs.lemmas.Nat.Bits.{and_pow, bit_at-lt}
use Rattle.ternary_words.specs.declared.word.Word.{Word}
use Rattle.bit_merge.specs.Merge.{CanJoin}
use Rattle.bit_merge.specs.Near.{IsNear}
use Rattle.bit_merge.specs.Slots.{IsPartner, IsWord}
use Rattle.bit_merge.proofs.WordBits.{word, join-near, joins-itself, joins-flipped}

-- the mask has a bit, or hasn't
pub has-bit : (m n : ℕ) → (bit_and m (2 ^ n) ≡ 0 → ⊥) → bit_and m (2 ^ n) ≡ 2 ^ n
has-bit m n h =
    elim (cases_eq (bit_at m n) 0) [
      | inl e ↦ absurd (h (and_pow m n ∙ ap (λ t. t * 2 ^ n) e ∙ (let z : 0 * 2 ^ n ≡ 0 = omega arith in z)))
      | inr other ↦
          let e : bit_at m n ≡ 1 = omega (arith, other, bit_at-lt m n) in
          and_pow m n ∙ ap (λ t. t * 2 ^ n) e ∙ (let z : 1 * 2 ^ n ≡ 2 ^ n = omega arith in z)
    ]

pub near-up : (n m a k b : ℕ) → IsNear n m a k b → IsNear (n + 1) m a k b
near-up n m a k b h = (h.0, elim h.1 [ inl e ↦ inl e | inr r ↦ inr (r.0, omega (arith, r.1), r.2, r.3) ])

abbrev pub IsLast : ℕ → ℕ → ℕ → ℕ → ℕ → Type 0
IsLast n m a k b = (bit_and m (2 ^ n) ≡ 2 ^ n) × (k ≡ m) × (b ≡ bit_xor a (2 ^ n))

pub near-down : (n m a k b : ℕ) → IsNear (n + 1) m a k b → IsNear n m a k b ⊎ IsLast n m a k b
near-down n m a k b h =
    elim h.1 [
      | inl e ↦ inl (h.0, inl e)
      | inr r ↦ elim (cases_lt r.0 n) [
        | inl small ↦ inl (h.0, inr (r.0, small, r.2, r.3))
        | inr large ↦
            let last : r.0 ≡ n = omega (arith, r.1, large) in
            inr (subst (λ j. bit_and m (2 ^ j) ≡ 2 ^ j) last r.2, h.0, subst (λ j. b ≡ bit_xor a (2 ^ j)) last r.3)
      ]
    ]

pub near-none : (n m a k b : ℕ) → bit_and m (2 ^ n) ≡ 0 → IsNear (n + 1) m a k b → IsNear n m a k b
near-none n m a k b e h = elim (near-down n m a k b h) [ inl r ↦ r | inr r ↦ let p = pow_pos n in let f = r.0 in absurd (omega (arith, p, e, f)) ]

joins_same : (m x k y l z : ℕ) → l ≡ k → z ≡ y → CanJoin (word 104 m x) (word 104 k y) → CanJoin (word 104 m x) (word 104 l z)
joins_same m x k y l z e f h = subst (λ n. CanJoin (word 104 m x) (word 104 n z)) (sym e) (subst (λ n. CanJoin (word 104 m x) (word 104 k n)) (sym f) h)

-- near words can be joined, and no others
pub near-partner : (w b : Word) → IsNear 104 w.mask w.value b.mask b.value → IsPartner w b
near-partner w b h =
    elim h.1 [
      | inl e ↦ joins_same w.mask w.value w.mask w.value b.mask b.value h.0 e (joins-itself 104 w.mask w.value)
      | inr r ↦ joins_same w.mask w.value w.mask (bit_xor w.value (2 ^ r.0)) b.mask b.value h.0 r.3 (joins-flipped 104 w.mask w.value r.0 r.2)
    ]

pub partner-near : (w b : Word) → IsPartner w b → IsNear 104 w.mask w.value b.mask b.value
partner-near w b h = join-near 104 w.mask w.value b.mask b.value w.narrow b.narrow w.masked b.masked h

-- a word is its own partner, and one word has the partners of its like
pub alike-partner : (a b : Word) → IsWord a.mask a.value b → IsPartner a b
alike-partner a b h = near-partner a b (h.0, inl h.1)

pub alike-too : (w a b : Word) → IsWord a.mask a.value b → IsPartner w a → IsPartner w b
alike-too w a b h p = joins_same w.mask w.value a.mask a.value b.mask b.value h.0 h.1 p

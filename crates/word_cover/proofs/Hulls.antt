-- Bits that are taken out of cubes, and the hull of two.
use Rattle.std.proofs.Common.{◌≡◌, ℕ, ◌+◌, ◌%◌, ◌^◌, ◌<◌, min, ap, refl, sym, ◌∙◌, arith, bit_and, bit_xor}
use Rattle.std.specs.Int.{bit_at}
use Rattle.std.proofs.lemmas.Nat.{and_le_l, xor_lt}
use Rattle.std.proofs.lemmas.Nat.Bits.{bit_at_and, bit_at_xor, bit_at-lt, bit_at-zero, same_from_bits}
use Rattle.word_cover.specs.Cubes.{Cube, HasBitsOf, IsHull, SameBits, freed_of, without}
use Rattle.word_cover.proofs.Members.{IsMasked, masked-twice}

narrow_without : (n bits : ℕ) → n < 2 ^ 104 → without n bits < 2 ^ 104
narrow_without n bits h = xor_lt 104 n (bit_and n bits) h (omega (arith, h, and_le_l n bits))

bit_without : (n bits i : ℕ) → bit_at (without n bits) i ≡ (bit_at n i + min (bit_at n i) (bit_at bits i)) % 2
bit_without n bits i = bit_at_xor n (bit_and n bits) i ∙ ap (λ x. (bit_at n i + x) % 2) (bit_at_and n bits i)

both_bit : (a b c : ℕ) → bit_and a b ≡ c → (i : ℕ) → min (bit_at a i) (bit_at b i) ≡ bit_at c i
both_bit a b c e i = sym (bit_at_and a b i) ∙ ap (λ x. bit_at x i) e

-- the same bits, bit by bit
same_bit : (bits a b i : ℕ) → SameBits bits a b → min ((bit_at a i + bit_at b i) % 2) (bit_at bits i) ≡ 0
same_bit bits a b i h = ap (λ x. min x (bit_at bits i)) (sym (bit_at_xor a b i)) ∙ sym (bit_at_and (bit_xor a b) bits i) ∙ ap (λ x. bit_at x i) h ∙ bit_at-zero i

same_bits : (bits a b : ℕ) → ((i : ℕ) → min ((bit_at a i + bit_at b i) % 2) (bit_at bits i) ≡ 0) → SameBits bits a b
same_bits bits a b h = same_from_bits (bit_and (bit_xor a b) bits) 0 (λ i. bit_at_and (bit_xor a b) bits i ∙ ap (λ x. min x (bit_at bits i)) (bit_at_xor a b i) ∙ h i ∙ sym (bit_at-zero i))

both_bits : (a b c : ℕ) → ((i : ℕ) → min (bit_at a i) (bit_at b i) ≡ bit_at c i) → bit_and a b ≡ c
both_bits a b c h = same_from_bits (bit_and a b) c (λ i. bit_at_and a b i ∙ h i)

-- Bits that are freed.

freed_bit : (v m b : ℕ) → v < 2 → m < 2 → b < 2 → min v m ≡ v → min ((v + min v b) % 2) ((m + min m b) % 2) ≡ (v + min v b) % 2
freed_bit v m b p q r h = grind arith

pub masked-freed : (c : Cube) (bits : ℕ) → IsMasked c → IsMasked (freed_of c bits)
masked-freed c bits p = record {
  masked = both_bits (without c.value bits) (without c.mask bits) (without c.value bits)
      (λ i. rw (bit_without c.value bits i, bit_without c.mask bits i)
      (freed_bit (bit_at c.value i) (bit_at c.mask i) (bit_at bits i) (bit_at-lt c.value i) (bit_at-lt c.mask i) (bit_at-lt bits i) (both_bit c.value c.mask c.value p.masked i)));
  narrow = narrow_without c.mask bits p.narrow;
}

-- Hulls.

abbrev pub hull_of : Cube → Cube → Cube
hull_of a b = let mask = without (bit_and a.mask b.mask) (bit_xor a.value b.value) in record { value = bit_and a.value mask; mask = mask }

pub masked-hull : (a b : Cube) → IsMasked a → IsMasked (hull_of a b)
masked-hull a b p = record {
  masked = masked-twice a.value (hull_of a b).mask;
  narrow = narrow_without (bit_and a.mask b.mask) (bit_xor a.value b.value) (omega (arith, p.narrow, and_le_l a.mask b.mask));
}

-- a bit of the hull's mask: both ask for it, and the same
abbrev alike : ℕ → ℕ → ℕ → ℕ → ℕ
alike av am bv bm = (min am bm + min (min am bm) ((av + bv) % 2)) % 2

bit_hull : (a b : Cube) (i : ℕ) → bit_at (hull_of a b).mask i ≡ alike (bit_at a.value i) (bit_at a.mask i) (bit_at b.value i) (bit_at b.mask i)
bit_hull a b i = bit_without (bit_and a.mask b.mask) (bit_xor a.value b.value) i
    ∙ rw (bit_at_and a.mask b.mask i, bit_at_xor a.value b.value i) refl

in_bit : (av am bv bm : ℕ) → av < 2 → am < 2 → bv < 2 → bm < 2 → (let m = alike av am bv bm in
    (min m am ≡ m) × (min m bm ≡ m) × (min ((av + min av m) % 2) m ≡ 0) × (min ((bv + min av m) % 2) m ≡ 0))
in_bit av am bv bm a b c d = (grind arith, grind arith, grind arith, grind arith)

great_bit : (av am bv bm cv cm : ℕ) → av < 2 → am < 2 → bv < 2 → bm < 2 → cv < 2 → cm < 2 → min cm am ≡ cm → min ((av + cv) % 2) cm ≡ 0 → min cm bm ≡ cm → min ((bv + cv) % 2) cm ≡ 0 →
    (let m = alike av am bv bm in (min cm m ≡ cm) × (min ((min av m + cv) % 2) cm ≡ 0))
great_bit av am bv bm cv cm a b c d e f p q r s = (grind arith, grind arith)

at_bit : (a b : Cube) (i : ℕ) → (let m = bit_at (hull_of a b).mask i in
    (min m (bit_at a.mask i) ≡ m) × (min m (bit_at b.mask i) ≡ m) × (min ((bit_at a.value i + min (bit_at a.value i) m) % 2) m ≡ 0) × (min ((bit_at b.value i + min (bit_at a.value i) m) % 2) m ≡ 0))
at_bit a b i = rw (bit_hull a b i) (in_bit (bit_at a.value i) (bit_at a.mask i) (bit_at b.value i) (bit_at b.mask i) (bit_at-lt a.value i) (bit_at-lt a.mask i) (bit_at-lt b.value i) (bit_at-lt b.mask i))

great_at : (a b c : Cube) (i : ℕ) → HasBitsOf a c → HasBitsOf b c → (let m = bit_at (hull_of a b).mask i in
    (min (bit_at c.mask i) m ≡ bit_at c.mask i) × (min ((min (bit_at a.value i) m + bit_at c.value i) % 2) (bit_at c.mask i) ≡ 0))
great_at a b c i p q = rw (bit_hull a b i)
    (great_bit (bit_at a.value i) (bit_at a.mask i) (bit_at b.value i) (bit_at b.mask i) (bit_at c.value i) (bit_at c.mask i)
    (bit_at-lt a.value i) (bit_at-lt a.mask i) (bit_at-lt b.value i) (bit_at-lt b.mask i) (bit_at-lt c.value i) (bit_at-lt c.mask i)
    (both_bit c.mask a.mask c.mask p.0 i) (same_bit c.mask a.value c.value i p.1) (both_bit c.mask b.mask c.mask q.0 i) (same_bit c.mask b.value c.value i q.1))

pub hull-is : (a b : Cube) → IsHull a b (hull_of a b)
hull-is a b =
    let m = (hull_of a b).mask in
    let v = (hull_of a b).value in record {
      first = (both_bits m a.mask m (λ i. (at_bit a b i).0), same_bits m a.value v (λ i. rw (bit_at_and a.value m i) (at_bit a b i).2));
      second = (both_bits m b.mask m (λ i. (at_bit a b i).1), same_bits m b.value v (λ i. rw (bit_at_and a.value m i) (at_bit a b i).3));
      greatest = λ c p q. (both_bits c.mask m c.mask (λ i. (great_at a b c i p q).0), same_bits c.mask v c.value (λ i. rw (bit_at_and a.value m i) (great_at a b c i p q).1));
    }

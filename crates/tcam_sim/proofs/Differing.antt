-- Matching a slot is one test on the halves of its numbers.
use Rattle.std.proofs.Common.{◌≡◌, ℕ, ◌+◌, ◌*◌, ◌^◌, ◌<◌, Some, None, ap, sym, ◌∙◌, arith, inl, inr, eq-eqb}
use Rattle.std.specs.Prelude.{nat_eq, ◌&&◌, bit_and, bit_or, bit_xor, if◌then◌else◌}
use Rattle.std.proofs.lemmas.Nat.{xor_block, and_block, xor_lt, le_or_l, le_or_r}
use Rattle.std.proofs.lemmas.Bool.{ne_eqb}
use Rattle.std.proofs.lemmas.Bool.Decides.{eqb_tells}
use Rattle.field_boxes.specs.Headline.Bits.{bits}
use Rattle.ternary_words.specs.Word.{trits}
use Rattle.ternary_words.proofs.Matching.{agrees-mask}
use Rattle.tcam_sim.specs.Bank.{slot_with}
use Rattle.tcam_sim.specs.Slots.{Stored, slot_agrees}

-- a number that is 0 exactly where two others are
none_both : (x a b : ℕ) → (a ≡ 0 → b ≡ 0 → x ≡ 0) → (x ≡ 0 → a ≡ 0) → (x ≡ 0 → b ≡ 0) → nat_eq x 0 ≡ nat_eq a 0 && nat_eq b 0
none_both x a b both left right = elim (eqb_tells a 0) [
  | inl s ↦ elim (eqb_tells b 0) [
    | inl t ↦ eq-eqb x 0 (both s.1 t.1) ∙ sym (ap (λ p. p && nat_eq b 0) s.0 ∙ t.0)
    | inr t ↦ ne_eqb x 0 (λ e. t.1 (right e)) ∙ sym (ap (λ p. p && nat_eq b 0) s.0 ∙ t.0)
  ]
  | inr s ↦ ne_eqb x 0 (λ e. s.1 (left e)) ∙ sym (ap (λ p. p && nat_eq b 0) s.0)
]

-- two numbers have a bit together where one of them has
none_or : (a b : ℕ) → nat_eq (bit_or a b) 0 ≡ nat_eq a 0 && nat_eq b 0
none_or a b = none_both (bit_or a b) a b (λ x y. ap (λ n. bit_or n b) x ∙ ap (bit_or 0) y) (λ e. omega (arith, e, le_or_l a b)) (λ e. omega (arith, e, le_or_r a b))

-- the other way round
none_or_turned : (a b : ℕ) → nat_eq (bit_or a b) 0 ≡ nat_eq b 0 && nat_eq a 0
none_or_turned a b = none_both (bit_or a b) b a (λ y x. ap (λ n. bit_or n b) x ∙ ap (bit_or 0) y) (λ e. omega (arith, e, le_or_r a b)) (λ e. omega (arith, e, le_or_l a b))

-- a number is 0 where both of its halves are
none_joined : (a b : ℕ) → nat_eq (a * 2 ^ 64 + b) 0 ≡ nat_eq a 0 && nat_eq b 0
none_joined a b = none_both (a * 2 ^ 64 + b) a b (λ x y. omega (arith, x, y)) (λ e. omega (arith, e)) (λ e. omega (arith, e))

-- the halves of where a key and a value differ under a mask
halves_differ : (kh kl vh vl mh ml : ℕ) → kl < 2 ^ 64 → vl < 2 ^ 64 → ml < 2 ^ 64 →
    bit_and (bit_xor (kh * 2 ^ 64 + kl) (vh * 2 ^ 64 + vl)) (mh * 2 ^ 64 + ml) ≡ bit_and (bit_xor kh vh) mh * 2 ^ 64 + bit_and (bit_xor kl vl) ml
halves_differ kh kl vh vl mh ml k v m =
    ap (λ x. bit_and x (mh * 2 ^ 64 + ml)) (xor_block 64 kh vh kl vl k v)
    ∙ and_block 64 (bit_xor kh vh) mh (bit_xor kl vl) ml (xor_lt 64 kl vl k v) m

-- where no bit differs in either half, the word agrees
words_agree : (kh kl vh vl mh ml : ℕ) → kl < 2 ^ 64 → vl < 2 ^ 64 → ml < 2 ^ 64 → mh < 2 ^ 40 →
    nat_eq (bit_or (bit_and (bit_xor kh vh) mh) (bit_and (bit_xor kl vl) ml)) 0
    ≡ slot_agrees (bits 104 (kh * 2 ^ 64 + kl)) (slot_with 0 (mh * 2 ^ 64 + ml) (vh * 2 ^ 64 + vl) 0)
words_agree kh kl vh vl mh ml k v m narrow =
    let high = bit_and (bit_xor kh vh) mh in
    let low = bit_and (bit_xor kl vl) ml in
    none_or high low ∙ sym (none_joined high low) ∙ ap (λ x. nat_eq x 0) (sym (halves_differ kh kl vh vl mh ml k v m))
    ∙ agrees-mask 104 (mh * 2 ^ 64 + ml) (vh * 2 ^ 64 + vl) (kh * 2 ^ 64 + kl) (omega (arith, narrow, m))

pub differing : (kh kl vh vl mh ml a d : ℕ) → kl < 2 ^ 64 → vl < 2 ^ 64 → ml < 2 ^ 64 → mh < 2 ^ 40 →
    nat_eq (bit_or (bit_or (bit_and (bit_xor kh vh) mh) (bit_and (bit_xor kl vl) ml)) a) 0
    ≡ slot_agrees (bits 104 (kh * 2 ^ 64 + kl)) (slot_with a (mh * 2 ^ 64 + ml) (vh * 2 ^ 64 + vl) d)
differing kh kl vh vl mh ml a d k v m narrow =
    let differ = bit_or (bit_and (bit_xor kh vh) mh) (bit_and (bit_xor kl vl) ml) in
    let key = bits 104 (kh * 2 ^ 64 + kl) in
    let held : Stored = record { word = trits (bits 104 (mh * 2 ^ 64 + ml)) (bits 104 (vh * 2 ^ 64 + vl)); decision = d } in
    none_or_turned differ a ∙ (elim (eqb_tells a 0) [
      | inl s ↦ ap (λ p. p && nat_eq differ 0) s.0 ∙ words_agree kh kl vh vl mh ml k v m narrow ∙ sym (ap (λ p. slot_agrees key (if p then Some held else None)) s.0)
      | inr s ↦ ap (λ p. p && nat_eq differ 0) s.0 ∙ sym (ap (λ p. slot_agrees key (if p then Some held else None)) s.0)
    ])

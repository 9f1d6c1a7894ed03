-- Words by their bits: halves, the least header, and words of one header.
use Rattle.std.proofs.Common.{◌≡◌, ◌⊎◌, ℕ, ◌+◌, ◌^◌, ◌%◌, ◌<◌, ◌≤◌, List, min, max, ap, sym, subst, ◌∙◌, arith, inl, inr, bit_and, bit_or, bit_xor}
use Rattle.std.specs.Int.{bit_at}
use Rattle.std.proofs.lemmas.Bool.{cases_lt}
use Rattle.std.proofs.lemmas.Nat.Bits.{bit_at_and, bit_at_or, bit_at_xor, bit_at-lt, bit_at-zero, bit_at-pow_same, bit_at-pow_other, same_from_bits, same_from_bits_below}
use Rattle.std.proofs.lemmas.Nat.{and_le_r, le_or_l}
use Rattle.field_boxes.specs.Headline.Fields.{IsHeader}
use Rattle.ternary_words.specs.declared.word.Word.{Word}
use Rattle.ternary_words.specs.Word.{key_of}
use Rattle.word_cover.specs.Cubes.{Cube, HasBitsOf, IsOpen, Meet, cube_of, one_half, zero_half}
use Rattle.word_cover.proofs.Members.{Has, has-bits, has-both, has-halves, has-word, key-small, masked-word, word-has}
use Rattle.agreement_check.proofs.Members.{least-key}
use Rattle.table_equiv.specs.Cubes.{IsIn}

pub in-cube : (w : Word) (header : List ℕ) → IsIn w header → Has (cube_of w) header
in-cube w header at = word-has header w at.is at.at

pub of-cube : (w : Word) (header : List ℕ) → IsHeader header → Has (cube_of w) header → IsIn w header
of-cube w header is has = record { is = is; at = has-word header w is has }

-- the least key of a word is its value
pub value-least : (header : List ℕ) (w : Word) → IsIn w header → w.value ≤ key_of header
value-least header w at = least-key (cube_of w) header (masked-word w) (in-cube w header at)

-- a word without bits has every header
pub open-in : (header : List ℕ) (w : Word) → IsHeader header → w.mask ≡ 0 → IsIn w header
open-in header w is e = let less = and_le_r (bit_xor (key_of header) w.value) w.mask in of-cube w header is (omega (arith, less, e))

-- what a word has that asks for no other bits
pub bits-in : (w other : Word) (header : List ℕ) → HasBitsOf (cube_of w) (cube_of other) → IsIn w header → IsIn other header
bits-in w other header bits at = of-cube other header at.is (has-bits (cube_of w) (cube_of other) header bits (in-cube w header at))

pub both-in : (w other : Word) (header : List ℕ) → IsIn w header → IsIn other header → Meet (cube_of w) (cube_of other)
both-in w other header at also = has-both (cube_of w) (cube_of other) header (in-cube w header at) (in-cube other header also)

-- one more bit makes a mask greater
pub wider : (m b : ℕ) → bit_at m b ≡ 0 → m < bit_or m (2 ^ b)
wider m b e =
    let least : m ≤ bit_or m (2 ^ b) = le_or_l m (2 ^ b) in
    let one : bit_at (bit_or m (2 ^ b)) b ≡ 1 = bit_at_or m (2 ^ b) b ∙ (let f = bit_at-pow_same b in let g : max (bit_at m b) (bit_at (2 ^ b) b) ≡ 1 = omega (arith, e, f) in g) in
    let other : m ≡ bit_or m (2 ^ b) → ⊥ = λ same. (let z : bit_at (bit_or m (2 ^ b)) b ≡ 0 = ap (λ x. bit_at x b) (sym same) ∙ e in omega (arith, z, one)) in
    grind (arith, least, other)

-- a value below its mask is narrow
value_small : (w : Word) → w.value < 2 ^ 104
value_small w = omega (arith, w.narrow, subst (λ v. v ≤ w.mask) w.masked (and_le_r w.value w.mask))

same_bit : (v m : ℕ) → v < 2 → m < 2 → min ((v + v) % 2) m ≡ 0
same_bit v m a b = grind arith

same_apart : (v m : ℕ) → bit_and (bit_xor v v) m ≡ 0
same_apart v m = same_from_bits (bit_and (bit_xor v v) m) 0 (λ i. bit_at_and (bit_xor v v) m i ∙ ap (λ x. min x (bit_at m i)) (bit_at_xor v v i)
    ∙ same_bit (bit_at v i) (bit_at m i) (bit_at-lt v i) (bit_at-lt m i) ∙ sym (bit_at-zero i))

-- the header whose key is the word's value
pub least-in : (w : Word) (header : List ℕ) → IsHeader header → key_of header ≡ w.value → IsIn w header
least-in w header is e = of-cube w header is (ap (λ k. bit_and (bit_xor k w.value) w.mask) e ∙ same_apart w.value w.mask)

both_ones : (k : ℕ) → k < 2 → (k ≡ 0 → ⊥) → k ≡ 1
both_ones k h n = grind (arith, n)

-- a bit that isn't open is asked for
pub closed-bit : (cube : Cube) → ((bit : ℕ) → IsOpen cube bit → ⊥) → (i : ℕ) → i < 104 → bit_at cube.mask i ≡ 1
closed-bit cube closed i less = both_ones (bit_at cube.mask i) (bit_at-lt cube.mask i) (λ z. closed i (less, z))

one_bit : (k v m : ℕ) → k < 2 → v < 2 → m ≡ 1 → min ((k + v) % 2) m ≡ 0 → k ≡ v
one_bit k v m a b e h = grind arith

-- a word that leaves no bit open has one key
pub one-key : (w : Word) (header : List ℕ) → ((bit : ℕ) → IsOpen (cube_of w) bit → ⊥) → IsIn w header → key_of header ≡ w.value
one-key w header closed at =
    let k = key_of header in
    let apart : bit_and (bit_xor k w.value) w.mask ≡ 0 = in-cube w header at in
    same_from_bits_below 104 k w.value (key-small header at.is) (value_small w) (λ i less.
    one_bit (bit_at k i) (bit_at w.value i) (bit_at w.mask i) (bit_at-lt k i) (bit_at-lt w.value i) (closed-bit (cube_of w) closed i less)
    (ap (λ x. min x (bit_at w.mask i)) (sym (bit_at_xor k w.value i)) ∙ sym (bit_at_and (bit_xor k w.value) w.mask i) ∙ ap (λ x. bit_at x i) apart ∙ bit_at-zero i))

absorbed : (m p : ℕ) → min m (max m p) ≡ m
absorbed m p = omega arith

absorb : (m p : ℕ) → bit_and m (bit_or m p) ≡ m
absorb m p = same_from_bits (bit_and m (bit_or m p)) m (λ i. bit_at_and m (bit_or m p) i ∙ ap (min (bit_at m i)) (bit_at_or m p i) ∙ absorbed (bit_at m i) (bit_at p i))

no_mask : (x m : ℕ) → m ≡ 0 → min x m ≡ 0
no_mask x m e = omega (arith, e)

no_bit : (v p m : ℕ) → v < 2 → m < 2 → p ≡ 0 → min ((max v p + v) % 2) m ≡ 0
no_bit v p m a b e = grind arith

other_bit : (v m b i : ℕ) → (i ≡ b → ⊥) → min ((max (bit_at v i) (bit_at (2 ^ b) i) + bit_at v i) % 2) (bit_at m i) ≡ 0
other_bit v m b i other = no_bit (bit_at v i) (bit_at (2 ^ b) i) (bit_at m i) (bit_at-lt v i) (bit_at-lt m i) (bit_at-pow_other b i other)

one_apart_bit : (v m b i : ℕ) → bit_at m b ≡ 0 → min ((max (bit_at v i) (bit_at (2 ^ b) i) + bit_at v i) % 2) (bit_at m i) ≡ 0
one_apart_bit v m b i e = elim (cases_lt i b) [
  | inl less ↦ other_bit v m b i (λ same. omega (arith, less, same))
  | inr more ↦ elim (cases_lt b i) [
    | inl above ↦ other_bit v m b i (λ same. omega (arith, above, same))
    | inr below ↦ let same : b ≡ i = omega (arith, more, below) in
        no_mask ((max (bit_at v i) (bit_at (2 ^ b) i) + bit_at v i) % 2) (bit_at m i) (subst (λ k. bit_at m k ≡ 0) same e)
  ]
]

one_apart : (v m b : ℕ) → bit_at m b ≡ 0 → bit_and (bit_xor (bit_or v (2 ^ b)) v) m ≡ 0
one_apart v m b e = same_from_bits (bit_and (bit_xor (bit_or v (2 ^ b)) v) m) 0 (λ i.
    bit_at_and (bit_xor (bit_or v (2 ^ b)) v) m i ∙ ap (λ x. min x (bit_at m i)) (bit_at_xor (bit_or v (2 ^ b)) v i ∙ ap (λ x. (x + bit_at v i) % 2) (bit_at_or v (2 ^ b) i))
    ∙ one_apart_bit v m b i e ∙ sym (bit_at-zero i))

-- a header lies in one of the halves, and what lies in a half lies in the whole
pub halved : (w zero one : Word) (b : ℕ) → cube_of zero ≡ zero_half (cube_of w) b → cube_of one ≡ one_half (cube_of w) b → (header : List ℕ) → IsIn w header → IsIn zero header ⊎ IsIn one header
halved w zero one b e f header at = elim (has-halves (cube_of w) b header (masked-word w) (in-cube w header at)) [
  | inl h ↦ inl (of-cube zero header at.is (subst (λ (c : Cube). Has c header) (sym e) h))
  | inr h ↦ inr (of-cube one header at.is (subst (λ (c : Cube). Has c header) (sym f) h))
]

pub zero-inside : (c : Cube) (b : ℕ) (header : List ℕ) → Has (zero_half c b) header → Has c header
zero-inside c b header has = has-bits (zero_half c b) c header (absorb c.mask (2 ^ b), same_apart c.value c.mask) has

pub one-inside : (c : Cube) (b : ℕ) (header : List ℕ) → bit_at c.mask b ≡ 0 → Has (one_half c b) header → Has c header
one-inside c b header e has = has-bits (one_half c b) c header (absorb c.mask (2 ^ b), one_apart c.value c.mask b e) has

pub in-zero : (w half : Word) (b : ℕ) → cube_of half ≡ zero_half (cube_of w) b → (header : List ℕ) → IsIn half header → IsIn w header
in-zero w half b e header at = of-cube w header at.is (zero-inside (cube_of w) b header (subst (λ (c : Cube). Has c header) e (in-cube half header at)))

pub in-one : (w half : Word) (b : ℕ) → bit_at w.mask b ≡ 0 → cube_of half ≡ one_half (cube_of w) b → (header : List ℕ) → IsIn half header → IsIn w header
in-one w half b z e header at = of-cube w header at.is (one-inside (cube_of w) b header z (subst (λ (c : Cube). Has c header) e (in-cube half header at)))

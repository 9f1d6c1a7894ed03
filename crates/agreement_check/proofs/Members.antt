-- Where the headers of a cube lie.
use Rattle.std.proofs.Common.{◌≡◌, ◌⊎◌, ◌∷◌, ℕ, ◌+◌, ◌-◌, ◌*◌, ◌/◌, ◌%◌, ◌^◌, ◌<◌, ◌≤◌, List, [], true, min, ap, refl, sym, subst, ◌∙◌, arith, bit_and, bit_xor, slice_index, eq-eqb}
use Rattle.std.specs.Int.{bit_at}
use Rattle.std.proofs.lemmas.Nat.Bits.{bit_at_and, bit_at_xor, bit_at-lt, bit_at-zero, same_from_bits}
use Rattle.std.proofs.lemmas.Nat.{and_le_l, and_le_r, and_mod, and_shr, mod_below, or_lt, pow_pos}
use Rattle.std.proofs.lemmas.Bool.{eqb-true}
use Rattle.field_boxes.specs.Boxes.{LiesIn}
use Rattle.field_boxes.specs.Headline.Bits.{bits}
use Rattle.field_boxes.specs.Headline.Fields.{IsHeader}
use Rattle.ternary_words.specs.declared.word.Word.{Word}
use Rattle.ternary_words.specs.Headline.Word.{agrees, header_bits}
use Rattle.ternary_words.specs.Word.{key_of}
use Rattle.ternary_words.specs.Views.{word_of}
use Rattle.ternary_words.proofs.Joined.{bits-header}
use Rattle.ternary_words.proofs.Matching.{agrees-mask}
use Rattle.word_cover.proofs.Numbers.{fits-halves, fits-inside, fits-or, fits-two, one-masked, or-masked, wider-masked, wider-narrow}
use Rattle.word_cover.proofs.Members.{Has, IsMasked}
use Rattle.partition_check.proofs.FieldBits.{within_hull}
use Rattle.word_cover.specs.Cubes.{Cube, HasBitsOf, Meet, SameBits, all_headers, cube_of, meet_of, one_half, zero_half}
use Rattle.agreement_check.specs.Cubes.{box}

-- The value is the least key, and each value of a field lies between the least and the greatest.

bit_same : (k v m : ℕ) → k < 2 → v < 2 → m < 2 → min v m ≡ v → min ((k + v) % 2) m ≡ 0 → min k m ≡ v
bit_same k v m a b c e h = grind arith

within : (k v m : ℕ) → bit_and v m ≡ v → bit_and (bit_xor k v) m ≡ 0 → bit_and k m ≡ v
within k v m e h = same_from_bits (bit_and k m) v (λ i. bit_at_and k m i ∙ bit_same (bit_at k i) (bit_at v i) (bit_at m i) (bit_at-lt k i) (bit_at-lt v i) (bit_at-lt m i)
    (sym (bit_at_and v m i) ∙ ap (λ x. bit_at x i) e)
    (ap (λ x. min x (bit_at m i)) (sym (bit_at_xor k v i)) ∙ sym (bit_at_and (bit_xor k v) m i) ∙ ap (λ x. bit_at x i) h ∙ bit_at-zero i))

pub least-key : (c : Cube) (h : List ℕ) → IsMasked c → Has c h → c.value ≤ key_of h
least-key c h p has = subst (λ (n : ℕ). n ≤ key_of h) (within (key_of h) c.value c.mask p.masked has) (and_le_l (key_of h) c.mask)

same_bit : (x v m : ℕ) → x < 2 → v < 2 → m < 2 → min x m ≡ v → min ((x + v) % 2) m ≡ 0
same_bit x v m a b c e = grind arith

apart_none : (x v m : ℕ) → bit_and x m ≡ v → bit_and (bit_xor x v) m ≡ 0
apart_none x v m e = same_from_bits (bit_and (bit_xor x v) m) 0 (λ i. bit_at_and (bit_xor x v) m i ∙ ap (λ y. min y (bit_at m i)) (bit_at_xor x v i)
    ∙ same_bit (bit_at x i) (bit_at v i) (bit_at m i) (bit_at-lt x i) (bit_at-lt v i) (bit_at-lt m i) (sym (bit_at_and x m i) ∙ ap (λ y. bit_at y i) e) ∙ sym (bit_at-zero i))

-- the part of a field
part_and : (l w x m v : ℕ) → bit_and x m ≡ v → bit_and (x / 2 ^ l % 2 ^ w) (m / 2 ^ l % 2 ^ w) ≡ v / 2 ^ l % 2 ^ w
part_and l w x m v e = sym (and_mod (x / 2 ^ l) (m / 2 ^ l) w) ∙ ap (λ y. y % 2 ^ w) (sym (and_shr x m l)) ∙ ap (λ y. y / 2 ^ l % 2 ^ w) e

between : (l w k v m : ℕ) → bit_and v m ≡ v → bit_and (bit_xor k v) m ≡ 0 →
    (v / 2 ^ l % 2 ^ w ≤ k / 2 ^ l % 2 ^ w) × (k / 2 ^ l % 2 ^ w ≤ v / 2 ^ l % 2 ^ w + (2 ^ w - 1 - m / 2 ^ l % 2 ^ w))
between l w k v m masked has =
    let x = k / 2 ^ l % 2 ^ w in
    let y = v / 2 ^ l % 2 ^ w in
    let n = m / 2 ^ l % 2 ^ w in
    let p = pow_pos w in
    within_hull w n y x (part_and l w v m v masked) (mod_below (m / 2 ^ l) (2 ^ w) p) (mod_below (k / 2 ^ l) (2 ^ w) p)
    (sym (agrees-mask w n y x (mod_below (m / 2 ^ l) (2 ^ w) p)) ∙ eq-eqb (bit_and (bit_xor x y) n) 0 (apart_none x y n (part_and l w k m v (within k v m masked has))))

-- the parts of a key are the values
parts_are : (a b c d e : ℕ) → a < 2 ^ 32 → b < 2 ^ 32 → c < 2 ^ 16 → d < 2 ^ 16 → e < 2 ^ 8 → (let k = a * 2 ^ 72 + b * 2 ^ 40 + c * 2 ^ 24 + d * 2 ^ 8 + e in
    (k / 2 ^ 72 % 2 ^ 32 ≡ a) × (k / 2 ^ 40 % 2 ^ 32 ≡ b) × (k / 2 ^ 24 % 2 ^ 16 ≡ c) × (k / 2 ^ 8 % 2 ^ 16 ≡ d) × (k / 2 ^ 0 % 2 ^ 8 ≡ e))
parts_are a b c d e ha hb hc hd he = (omega arith, omega arith, omega arith, omega arith, omega arith)

pub has-box : (c : Cube) (h : List ℕ) → IsMasked c → IsHeader h → Has c h → LiesIn (box c) h
has-box c (v0 ∷ v1 ∷ v2 ∷ v3 ∷ v4 ∷ []) p is has =
    let k = key_of (v0 ∷ v1 ∷ v2 ∷ v3 ∷ v4 ∷ []) in
    let parts = parts_are v0 v1 v2 v3 v4 is.0 is.1.0 is.1.1.0 is.1.1.1.0 is.1.1.1.1.0 in
    let at0 = between 72 32 k c.value c.mask p.masked has in
    let at1 = between 40 32 k c.value c.mask p.masked has in
    let at2 = between 24 16 k c.value c.mask p.masked has in
    let at3 = between 8 16 k c.value c.mask p.masked has in
    let at4 = between 0 8 k c.value c.mask p.masked has in (
      omega (arith, parts.0, at0.0),
      omega (arith, parts.0, at0.1),
      (omega (arith, parts.1, at1.0), omega (arith, parts.1, at1.1), (omega (arith, parts.2, at2.0), omega (arith, parts.2, at2.1), (omega (arith, parts.3, at3.0), omega (arith, parts.3, at3.1), (omega (arith, parts.4, at4.0), omega (arith, parts.4, at4.1), tt)))),
    )
has-box c h p is has = absurd assumption

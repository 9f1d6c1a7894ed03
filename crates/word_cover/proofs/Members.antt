-- The headers of cubes, and cubes that are words.
use Rattle.std.proofs.Common.{◌≡◌, ◌⊎◌, ◌∷◌, ℕ, ◌+◌, ◌*◌, ◌^◌, ◌<◌, List, [], true, ap, refl, sym, ◌∙◌, arith, bit_and, bit_xor, slice_index, eq-eqb}
use Rattle.std.specs.Int.Bits.{and_self}
use Rattle.std.proofs.lemmas.Nat.{and_assoc, and_le_r, or_lt}
use Rattle.std.proofs.lemmas.Bool.{eqb-true}
use Rattle.field_boxes.specs.Headline.Bits.{bits}
use Rattle.field_boxes.specs.Headline.Fields.{IsHeader}
use Rattle.ternary_words.specs.declared.word.Word.{Word}
use Rattle.ternary_words.specs.Headline.Word.{agrees, header_bits}
use Rattle.ternary_words.specs.Word.{key_of}
use Rattle.ternary_words.specs.Views.{word_of}
use Rattle.ternary_words.specs.Entries.{matches}
use Rattle.ternary_words.proofs.Joined.{bits-header}
use Rattle.ternary_words.proofs.Matching.{agrees-mask}
use Rattle.word_cover.specs.Cubes.{Cube, HasBitsOf, HasKey, Meet, all_headers, cube_of, meet_of, one_half, zero_half}
use Rattle.word_cover.proofs.Numbers.{fits-halves, fits-inside, fits-or, fits-part, fits-two, one-masked, or-masked, wider-masked, wider-narrow}

-- Keys.

nested : List ℕ → ℕ
nested v = (((slice_index v 0 * 2 ^ 32 + slice_index v 1) * 2 ^ 16 + slice_index v 2) * 2 ^ 16 + slice_index v 3) * 2 ^ 8 + slice_index v 4

nested_key : (h : List ℕ) → nested h ≡ key_of h
unfolding nested
nested_key h = omega arith

nested_bits : (h : List ℕ) → IsHeader h → bits 104 (nested h) ≡ header_bits h
unfolding nested
nested_bits (a ∷ b ∷ c ∷ d ∷ e ∷ []) h = bits-header (a ∷ b ∷ c ∷ d ∷ e ∷ []) refl h.1.0 h.1.1.0 h.1.1.1.0 h.1.1.1.1.0
nested_bits h is = absurd assumption

pub key_bits : (h : List ℕ) → IsHeader h → bits 104 (key_of h) ≡ header_bits h
key_bits h is = ap (bits 104) (sym (nested_key h)) ∙ nested_bits h is

pub key-small : (h : List ℕ) → IsHeader h → key_of h < 2 ^ 104
key-small (a ∷ b ∷ c ∷ d ∷ e ∷ []) h = omega (arith, h.0, h.1.0, h.1.1.0, h.1.1.1.0, h.1.1.1.1.0)
key-small h is = absurd assumption

-- Cubes that are words.

-- no bit of the value stands outside of the mask, and none of the mask outside of a key
pub record IsMasked (cube : Cube) : Type 0 where
  pub masked : bit_and cube.value cube.mask ≡ cube.value
  pub narrow : cube.mask < 2 ^ 104

pub masked-word : (w : Word) → IsMasked (cube_of w)
masked-word w = record { masked = w.masked; narrow = w.narrow }

pub masked-all : IsMasked all_headers
masked-all = record { masked = refl; narrow = omega arith }

pub masked-meet : (a b : Cube) → IsMasked a → IsMasked b → IsMasked (meet_of a b)
masked-meet a b p q = record { masked = or-masked a.value a.mask b.value b.mask p.masked q.masked; narrow = or_lt 104 a.mask b.mask p.narrow q.narrow }

pub masked-zero : (c : Cube) (bit : ℕ) → bit < 104 → IsMasked c → IsMasked (zero_half c bit)
masked-zero c bit h p = record { masked = wider-masked c.value c.mask (2 ^ bit) p.masked; narrow = wider-narrow c.mask bit p.narrow h }

pub masked-one : (c : Cube) (bit : ℕ) → bit < 104 → IsMasked c → IsMasked (one_half c bit)
masked-one c bit h p = record { masked = one-masked c.value c.mask (2 ^ bit) p.masked; narrow = wider-narrow c.mask bit p.narrow h }

-- a mask that is cut on both sides
pub masked-twice : (v m : ℕ) → bit_and (bit_and v m) m ≡ bit_and v m
masked-twice v m = and_assoc m v m ∙ ap (bit_and v) (and_self m)

-- The headers of a cube.

-- the header is one of the cube's
abbrev pub Has : Cube → List ℕ → Type 0
Has cube h = HasKey cube (key_of h)

pub word-has : (h : List ℕ) (w : Word) → IsHeader h → matches h w ≡ true → Has (cube_of w) h
word-has h w is m =
    eqb-true (bit_and (bit_xor (key_of h) w.value) w.mask) 0 (agrees-mask 104 w.mask w.value (key_of h) w.narrow ∙ ap (agrees (word_of w)) (key_bits h is) ∙ m)

pub has-word : (h : List ℕ) (w : Word) → IsHeader h → Has (cube_of w) h → matches h w ≡ true
has-word h w is has =
    ap (agrees (word_of w)) (sym (key_bits h is)) ∙ sym (agrees-mask 104 w.mask w.value (key_of h) w.narrow) ∙ eq-eqb (bit_and (bit_xor (key_of h) w.value) w.mask) 0 has

pub has-all : (h : List ℕ) → Has all_headers h
has-all h = let less = and_le_r (bit_xor (key_of h) 0) 0 in omega (arith, less)

pub has-halves : (c : Cube) (bit : ℕ) (h : List ℕ) → IsMasked c → Has c h → Has (zero_half c bit) h ⊎ Has (one_half c bit) h
has-halves c bit h p has = fits-halves (key_of h) c.value c.mask bit p.masked has

pub has-meet : (a b : Cube) (h : List ℕ) → IsMasked a → IsMasked b → Has a h → Has b h → Has (meet_of a b) h
has-meet a b h p q has also = fits-or (key_of h) a.value a.mask b.value b.mask p.masked q.masked has also

pub has-both : (a b : Cube) (h : List ℕ) → Has a h → Has b h → Meet a b
has-both a b h has also = fits-two (key_of h) a.value a.mask b.value b.mask has also

-- where they meet, what the meet has the first has
pub has-part : (a b : Cube) (h : List ℕ) → IsMasked a → IsMasked b → Meet a b → Has (meet_of a b) h → Has a h
has-part a b h p q m has = fits-part (key_of h) a.value a.mask b.value b.mask p.masked q.masked m has

pub has-bits : (a b : Cube) (h : List ℕ) → HasBitsOf a b → Has a h → Has b h
has-bits a b h bits has = fits-inside (key_of h) a.value a.mask b.value b.mask bits.0 bits.1 has

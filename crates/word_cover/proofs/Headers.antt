-- What the comparisons of two words and the halves of one tell of headers.
use Rattle.std.proofs.Common.{◌≡◌, ◌⊎◌, ◌∷◌, ℕ, List, [], Bool, true, false, ap, refl, sym, subst, inl, inr, bit_or, ◌||◌}
use Rattle.std.proofs.lemmas.Nat.{or_comm}
use Rattle.field_boxes.specs.Headline.Fields.{IsHeader}
use Rattle.ternary_words.specs.declared.word.Word.{Word}
use Rattle.ternary_words.specs.Entries.{matches}
use Rattle.word_cover.specs.Covers.{Covers, AreDisjoint, HoldsBoth, HoldsOnlyBoth}
use Rattle.word_cover.specs.Cubes.{Cube, HasBitsOf, Meet, cube_of, meet_of, one_half, zero_half}
use Rattle.word_cover.proofs.Members.{Has, has-bits, has-both, has-halves, has-meet, has-part, has-word, masked-meet, masked-word, word-has}

-- what isn't true is false
unlike : (s : Bool) → (s ≡ true → ⊥) → s ≡ false
unlike false n = refl
unlike true n = absurd (n refl)

pub apart-from : (a b : Word) → (Meet (cube_of a) (cube_of b) → ⊥) → AreDisjoint a b
apart-from a b apart h is m = unlike (matches h b) (λ n. apart (has-both (cube_of a) (cube_of b) h (word-has h a is m) (word-has h b is n)))

pub inside-covers : (a b : Word) → HasBitsOf (cube_of a) (cube_of b) → Covers (b ∷ []) a
inside-covers a b bits h is m = ap (λ t. t || false) (has-word h b is (has-bits (cube_of a) (cube_of b) h bits (word-has h a is m)))

-- the word of what both match
abbrev pub both_of : Word → Word → Word
both_of a b = let is = masked-meet (cube_of a) (cube_of b) (masked-word a) (masked-word b) in record {
  value = bit_or a.value b.value;
  mask = bit_or a.mask b.mask;
  narrow = is.narrow;
  masked = is.masked;
}

pub meet-holds : (a b : Word) → HoldsBoth a b (both_of a b)
meet-holds a b h is p q =
    has-word h (both_of a b) is (has-meet (cube_of a) (cube_of b) h (masked-word a) (masked-word b) (word-has h a is p) (word-has h b is q))

meet_comm : (a b : Cube) → meet_of a b ≡ meet_of b a
meet_comm a b = rw (or_comm a.value b.value, or_comm a.mask b.mask) refl

pub meet-alone : (a b : Word) → HoldsOnlyBoth a b (both_of a b)
meet-alone a b h is p q g also m =
    let x = cube_of a in
    let y = cube_of b in
    let has : Has (meet_of x y) g = word-has g (both_of a b) also m in
    let turned : Has (meet_of y x) g = subst (λ (c : Cube). Has c g) (meet_comm x y) has in (
      has-word g a also (has-part x y g (masked-word a) (masked-word b) (has-both x y h (word-has h a is p) (word-has h b is q)) has),
      has-word g b also (has-part y x g (masked-word b) (masked-word a) (has-both y x h (word-has h b is q) (word-has h a is p)) turned),
    )

first_of : (s t : Bool) → s ≡ true → s || (t || false) ≡ true
first_of s t e = ap (λ x. x || (t || false)) e

second_of : (s t : Bool) → t ≡ true → s || (t || false) ≡ true
second_of true t e = refl
second_of false t e = ap (λ x. x || false) e

-- each header of the word is one of a half's
in_halves : (w zero one : Word) (bit : ℕ) → cube_of zero ≡ zero_half (cube_of w) bit → cube_of one ≡ one_half (cube_of w) bit → (h : List ℕ) → IsHeader h → matches h w ≡ true →
    (matches h zero ≡ true) ⊎ (matches h one ≡ true)
in_halves w zero one bit z o h is m = elim (has-halves (cube_of w) bit h (masked-word w) (word-has h w is m)) [
  | inl has ↦ inl (has-word h zero is (subst (λ (c : Cube). Has c h) (sym z) has))
  | inr has ↦ inr (has-word h one is (subst (λ (c : Cube). Has c h) (sym o) has))
]

pub halves-are : (w zero one : Word) (bit : ℕ) → cube_of zero ≡ zero_half (cube_of w) bit → cube_of one ≡ one_half (cube_of w) bit →
    Covers (zero ∷ one ∷ []) w × Covers (one ∷ zero ∷ []) w
halves-are w zero one bit z o = (
  λ h is m. elim (in_halves w zero one bit z o h is m) [ inl e ↦ first_of (matches h zero) (matches h one) e | inr e ↦ second_of (matches h zero) (matches h one) e ],
  λ h is m. elim (in_halves w zero one bit z o h is m) [ inl e ↦ second_of (matches h one) (matches h zero) e | inr e ↦ first_of (matches h one) (matches h zero) e ],
)

-- Mask and value tell words.
use Rattle.std.proofs.Common.{◌≡◌, ◌<◌, ◌^◌, nat_eq, ℕ, true, map, ap, sym, ◌∙◌, arith, eq-eqb}
use Rattle.std.proofs.lemmas.Bool.{and_from, and_parts, eqb-true}
use Rattle.std.proofs.lemmas.Nat.{and_le_r}
use Rattle.field_boxes.specs.Headline.Bits.{bits}
use Rattle.ternary_words.specs.Views.{word_of}
use Rattle.ternary_words.specs.Word.{trits, mask_bit, value_bit}
use Rattle.ternary_words.specs.declared.entry.Entry.{Entry}
use Rattle.ternary_words.specs.declared.word.Word.{Word}
use Rattle.ternary_words.proofs.TritBits.{mask-bits, value-bits}
use Rattle.ternary_words.proofs.Parted.{same_bits}
use Rattle.slot_patch.specs.Least.{TellsWords, same_word}

same_trits : (m n v w : ℕ) → m ≡ n → v ≡ w → trits (bits 104 m) (bits 104 v) ≡ trits (bits 104 n) (bits 104 w)
same_trits m n v w e f = ap (λ x. trits (bits 104 x) (bits 104 v)) e ∙ ap (λ x. trits (bits 104 n) (bits 104 x)) f

pub words-alike : (a b : Entry) → same_word a b ≡ true → word_of a.word ≡ word_of b.word
words-alike a b h =
    let r = and_parts (nat_eq a.word.mask b.word.mask) (nat_eq a.word.value b.word.value) h in
    same_trits a.word.mask b.word.mask a.word.value b.word.value (eqb-true a.word.mask b.word.mask r.0) (eqb-true a.word.value b.word.value r.1)

value_small : (w : Word) → w.value < 2 ^ 104
value_small w = let le = and_le_r w.value w.mask in let e = w.masked in let small = w.narrow in omega (arith, le, e, small)

masks_alike : (a b : Word) → word_of a ≡ word_of b → a.mask ≡ b.mask
masks_alike a b h =
    same_bits 104 a.mask b.mask a.narrow b.narrow (sym (mask-bits 104 a.mask a.value) ∙ ap (map mask_bit) h ∙ mask-bits 104 b.mask b.value)

values_alike : (a b : Word) → word_of a ≡ word_of b → a.value ≡ b.value
values_alike a b h =
    same_bits 104 a.value b.value (value_small a) (value_small b)
    (sym (value-bits 104 a.mask a.value a.masked) ∙ ap (map value_bit) h ∙ value-bits 104 b.mask b.value b.masked)

pub tells : TellsWords same_word
tells = λ a b. (
  words-alike a b,
  λ e. and_from (nat_eq a.word.mask b.word.mask) (nat_eq a.word.value b.word.value)
      (eq-eqb a.word.mask b.word.mask (masks_alike a.word b.word e)) (eq-eqb a.word.value b.word.value (values_alike a.word b.word e)),
)

-- A word field by field: the parts of its value and of its mask.
use Rattle.std.proofs.Common.{◌≡◌, ◌∷◌, ◌++◌, ℕ, ◌+◌, ◌/◌, ◌%◌, ◌^◌, ◌<◌, List, [], length, map, ap, refl, sym, ◌∙◌, arith}
use Rattle.std.proofs.lemmas.Nat.{pow_pos, mod_below, and_mod, and_shr}
use Rattle.std.proofs.lemmas.Bool.{eqb-true, eq-eqb}
use Rattle.std.specs.Prelude.{bit_and}
use Rattle.field_boxes.specs.Headline.Bits.{bits}
use Rattle.field_boxes.specs.Bits.{begins}
use Rattle.field_boxes.specs.Headline.Fields.{AreValues, stated, width}
use Rattle.field_boxes.specs.Headline.Prefix.{FitsWidth}
use Rattle.field_boxes.specs.declared.prefix.Prefix.{Prefix}
use Rattle.field_boxes.proofs.Bits.{length-bits, bits-add, bits-mod, begins-bits}
use Rattle.ternary_words.specs.Headline.Word.{field_bits, header_bits}
use Rattle.ternary_words.specs.Word.{trits, mask_bit}
use Rattle.ternary_words.specs.Prefixes.{FitFields, HasMask, IsPart, IsPrefixInEach, IsWordOf, fields_trits, mask_of, masks_of, prefix_trits}
use Rattle.ternary_words.proofs.TritBits.{length-trits, mask-bits, trits-append}
use Rattle.ternary_words.proofs.PrefixMasks.{mask_small}
use Rattle.ternary_words.proofs.PrefixTrits.{trits-fields, trits-prefix}

-- the bits of these fields
abbrev pub room : List ℕ → ℕ
room [] = 0
room (f ∷ fs) = width f + room fs

-- a number of so many bits, a field after another
abbrev pub parts : List ℕ → ℕ → List ℕ
parts [] n = []
parts (f ∷ fs) n = n / 2 ^ room fs % 2 ^ width f ∷ parts fs n

pub bits-parts : (fs : List ℕ) (n : ℕ) → bits (room fs) n ≡ field_bits fs (parts fs n)
bits-parts [] n = refl
bits-parts (f ∷ fs) n =
    bits-add (width f) (room fs) n
    ∙ ap (λ bs. bs ++ bits (room fs) n) (sym (bits-mod (width f) (n / 2 ^ room fs)))
    ∙ ap (λ bs. bits (width f) (n / 2 ^ room fs % 2 ^ width f) ++ bs) (bits-parts fs n)

pub are_parts : (fs : List ℕ) (n : ℕ) → AreValues fs (parts fs n)
are_parts [] n = tt
are_parts (f ∷ fs) n = (mod_below (n / 2 ^ room fs) (2 ^ width f) (pow_pos (width f)), are_parts fs n)

-- numbers with the same bits are the same
pub same_bits : (n a b : ℕ) → a < 2 ^ n → b < 2 ^ n → bits n a ≡ bits n b → a ≡ b
same_bits n a b ha hb e =
    eqb-true a b (sym (begins-bits n a b [] ha hb) ∙ ap (λ bs. begins bs (bits n b ++ [])) e ∙ begins-bits n b b [] hb hb ∙ eq-eqb b b refl)

-- a field whose trits are those of a prefix has its mask
told_mask : (w m v : ℕ) (p : Prefix) → m < 2 ^ w → FitsWidth w p → trits (bits w m) (bits w v) ≡ prefix_trits w p → m ≡ mask_of w p
told_mask w m v p small fits e =
    same_bits w m (mask_of w p) small (mask_small w p fits)
    (sym (mask-bits w m v) ∙ ap (map mask_bit) (e ∙ sym (trits-prefix w p fits)) ∙ mask-bits w (mask_of w p) p.value)

front_same : {A : Type 0} (xs ys cs ds : List A) → length xs ≡ length ys → xs ++ cs ≡ ys ++ ds → xs ≡ ys
front_same [] [] cs ds h e = refl
front_same [] (b ∷ ys) cs ds h e = absurd (omega arith)
front_same (a ∷ xs) [] cs ds h e = absurd (omega arith)
front_same (a ∷ xs) (b ∷ ys) cs ds h e = let rest : xs ++ cs ≡ ys ++ ds = cc in let same = front_same xs ys cs ds (omega arith) rest in cc

back_same : {A : Type 0} (xs ys cs ds : List A) → length xs ≡ length ys → xs ++ cs ≡ ys ++ ds → cs ≡ ds
back_same [] [] cs ds h e = e
back_same [] (b ∷ ys) cs ds h e = absurd (omega arith)
back_same (a ∷ xs) [] cs ds h e = absurd (omega arith)
back_same (a ∷ xs) (b ∷ ys) cs ds h e = let rest : xs ++ cs ≡ ys ++ ds = cc in back_same xs ys cs ds (omega arith) rest

-- a mask of a prefix in each of these fields
abbrev pub HaveMasks : List ℕ → List ℕ → Type 0
HaveMasks [] ms = Unit {0}
HaveMasks (f ∷ fs) [] = Unit {0}
HaveMasks (f ∷ fs) (m ∷ ms) = HasMask (width f) m × HaveMasks fs ms

told_masks : (fs ms vs : List ℕ) (ps : List Prefix) → AreValues fs ms → AreValues fs vs → length ps ≡ length fs → FitFields fs ps →
    trits (field_bits fs ms) (field_bits fs vs) ≡ fields_trits fs ps → HaveMasks fs ms
told_masks [] ms vs ps hm hv n fit e = tt
told_masks (f ∷ fs) [] vs ps hm hv n fit e = tt
told_masks (f ∷ fs) (m ∷ ms) [] ps hm hv n fit e = absurd hv
told_masks (f ∷ fs) (m ∷ ms) (v ∷ vs) [] hm hv n fit e = absurd (omega arith)
told_masks (f ∷ fs) (m ∷ ms) (v ∷ vs) (p ∷ ps) hm hv n fit e =
    let w = width f in
    let same : length (bits w m) ≡ length (bits w v) = length-bits w m ∙ sym (length-bits w v) in
    let parted : trits (bits w m) (bits w v) ++ trits (field_bits fs ms) (field_bits fs vs) ≡ prefix_trits w p ++ fields_trits fs ps = sym (trits-append (bits w m) (field_bits fs ms) (bits w v) (field_bits fs vs) same) ∙ e in
    let wide : length (trits (bits w m) (bits w v)) ≡ length (prefix_trits w p) =
    length-trits (bits w m) (bits w v) same ∙ length-bits w m ∙ sym (ap length (sym (trits-prefix w p fit.0)) ∙ length-trits (bits w (mask_of w p)) (bits w p.value) (length-bits w (mask_of w p) ∙ sym (length-bits w p.value)) ∙ length-bits w (mask_of w p)) in
    ((p, fit.0, told_mask w m v p hm.0 fit.0 (front_same _ _ _ _ wide parted)), told_masks fs ms vs ps hm.1 hv.1 (omega arith) fit.1 (back_same _ _ _ _ wide parted))

-- the word of a mask and a value, by their parts
pub word-parts : (m v : ℕ) → trits (bits 104 m) (bits 104 v) ≡ trits (header_bits (parts stated m)) (header_bits (parts stated v))
word-parts m v = ap (λ ms. trits ms (bits 104 v)) (bits-parts stated m) ∙ ap (trits (header_bits (parts stated m))) (bits-parts stated v)

-- a word that is a prefix in each field has a mask of a prefix in each
pub has_masks : (m v : ℕ) → IsPrefixInEach (trits (bits 104 m) (bits 104 v)) → HaveMasks stated (parts stated m)
has_masks m v (ps, is) =
    told_masks stated (parts stated m) (parts stated v) ps (are_parts stated m) (are_parts stated v) is.five is.fit (sym (word-parts m v) ∙ is.same)

five : {a b c d e a' b' c' d' e' : ℕ} → a ≡ a' → b ≡ b' → c ≡ c' → d ≡ d' → e ≡ e' → a ∷ b ∷ c ∷ d ∷ e ∷ [] ≡ a' ∷ b' ∷ c' ∷ d' ∷ e' ∷ []
five h0 h1 h2 h3 h4 = cc

-- the prefixes of the parts are those of the word
pub word_of_parts : (m v : ℕ) (p0 p1 p2 p3 p4 : Prefix) →
    IsPart 32 (v / 2 ^ 72 % 2 ^ 32) (m / 2 ^ 72 % 2 ^ 32) p0 → IsPart 32 (v / 2 ^ 40 % 2 ^ 32) (m / 2 ^ 40 % 2 ^ 32) p1 → IsPart 16 (v / 2 ^ 24 % 2 ^ 16) (m / 2 ^ 24 % 2 ^ 16) p2 →
    IsPart 16 (v / 2 ^ 8 % 2 ^ 16) (m / 2 ^ 8 % 2 ^ 16) p3 → IsPart 8 (v / 2 ^ 0 % 2 ^ 8) (m / 2 ^ 0 % 2 ^ 8) p4 →
    IsWordOf (p0 ∷ p1 ∷ p2 ∷ p3 ∷ p4 ∷ []) (trits (bits 104 m) (bits 104 v))
word_of_parts m v p0 p1 p2 p3 p4 h0 h1 h2 h3 h4 =
    let ps = p0 ∷ p1 ∷ p2 ∷ p3 ∷ p4 ∷ [] in
    let fit : FitFields stated ps = (h0.fits, (h1.fits, (h2.fits, (h3.fits, (h4.fits, tt))))) in
    let masks : parts stated m ≡ masks_of stated ps = five h0.masked h1.masked h2.masked h3.masked h4.masked in
    let values : parts stated v ≡ map (λ (p : Prefix). p.value) ps = five (sym h0.valued) (sym h1.valued) (sym h2.valued) (sym h3.valued) (sym h4.valued) in
    record {
      five = refl;
      fit = fit;
      same = word-parts m v ∙ ap (λ ms. trits (header_bits ms) (header_bits (parts stated v))) masks ∙ ap (λ vs. trits (header_bits (masks_of stated ps)) (header_bits vs)) values ∙ trits-fields stated ps fit;
    }

-- a part of a value lies in that part of its mask
pub part_within : (n w v m : ℕ) → bit_and v m ≡ v → bit_and (v / 2 ^ n % 2 ^ w) (m / 2 ^ n % 2 ^ w) ≡ v / 2 ^ n % 2 ^ w
part_within n w v m e = sym (and_mod (v / 2 ^ n) (m / 2 ^ n) w) ∙ ap (λ x. x % 2 ^ w) (sym (and_shr v m n) ∙ ap (λ x. x / 2 ^ n) e)

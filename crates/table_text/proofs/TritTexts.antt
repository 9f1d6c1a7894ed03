-- A word that is read trit by trit.
use Rattle.std.proofs.Common.{◌≡◌, ◌∷◌, ◌++◌, ℕ, suc, ◌+◌, ◌*◌, ◌/◌, ◌%◌, ◌^◌, ◌<◌, ◌≤◌, List, [], length, map, take, get_or, ap, sym, ◌∙◌, arith, bit_and, nat_eq}
use Rattle.std.proofs.Math.Nat.{pow-suc, pow-le-pow_right}
use Rattle.std.proofs.lemmas.Nat.{and_block}
use Rattle.std.proofs.lemmas.List.{map_more, take_all}
use Rattle.field_boxes.specs.Headline.Bits.{bits}
use Rattle.field_boxes.proofs.Bits.{length-bits, bits-add}
use Rattle.ternary_words.specs.Word.{trit, trits}
use Rattle.ternary_words.proofs.TritBits.{trits-append}
use Rattle.table_text.specs.Trits.{trit_of}

-- one bit behind those of a number
bits-more : (n v b : ℕ) → b < 2 → bits (n + 1) (v * 2 + b) ≡ bits n v ++ nat_eq b 1 ∷ []
bits-more n v b h =
    let high : (v * 2 + b) / 2 ≡ v = omega arith in
    let low : (v * 2 + b) / 1 % 2 ≡ b = omega arith in
    bits-add n 1 (v * 2 + b) ∙ ap (λ x. bits n x ++ nat_eq ((v * 2 + b) / 1 % 2) 1 ∷ []) high ∙ ap (λ x. bits n v ++ nat_eq x 1 ∷ []) low

-- one trit behind those of two numbers
trits-more : (n m v a b : ℕ) → a < 2 → b < 2 → trits (bits (n + 1) (m * 2 + a)) (bits (n + 1) (v * 2 + b)) ≡ trits (bits n m) (bits n v) ++ trit (nat_eq a 1) (nat_eq b 1) ∷ []
trits-more n m v a b ha hb =
    ap (λ ms. trits ms (bits (n + 1) (v * 2 + b))) (bits-more n m a ha) ∙ ap (trits (bits n m ++ nat_eq a 1 ∷ [])) (bits-more n v b hb)
    ∙ trits-append (bits n m) (nat_eq a 1 ∷ []) (bits n v) (nat_eq b 1 ∷ []) (length-bits n m ∙ sym (length-bits n v))

-- one character more was read
pub spelled-more : (items : List ℕ) (i m v a b byte nm nv : ℕ) → i < length items → byte ≡ get_or items i 0 → a < 2 → b < 2 → trit (nat_eq a 1) (nat_eq b 1) ≡ trit_of byte
    → nm ≡ m * 2 + a → nv ≡ v * 2 + b → trits (bits i m) (bits i v) ≡ map trit_of (take i items) → trits (bits (i + 1) nm) (bits (i + 1) nv) ≡ map trit_of (take (i + 1) items)
spelled-more items i m v a b byte nm nv lt at ha hb is em ev h =
    ap (λ x. trits (bits (i + 1) x) (bits (i + 1) nv)) em ∙ ap (λ x. trits (bits (i + 1) (m * 2 + a)) (bits (i + 1) x)) ev
    ∙ trits-more i m v a b ha hb ∙ ap (λ ts. ts ++ trit (nat_eq a 1) (nat_eq b 1) ∷ []) h
    ∙ ap (λ t. map trit_of (take i items) ++ t ∷ []) (is ∙ ap trit_of at) ∙ sym (map_more trit_of items i 0 lt)

-- a number of so many bits, and one bit more
pub small-more : (x b i y : ℕ) → x < 2 ^ i → b < 2 → y ≡ x * 2 + b → y < 2 ^ (i + 1)
small-more x b i y lt hb e =
    let same : 2 ^ (i + 1) ≡ 2 ^ suc i = ap (λ n. 2 ^ n) (let one : i + 1 ≡ suc i = omega arith in one) in
    omega (arith, pow-suc 2 i, same)

-- a number of no more bits than a word has
pub within_word : (x i : ℕ) → x < 2 ^ i → i ≤ 104 → x < 2 ^ 104
within_word x i lt le =
    let most : 2 ^ i ≤ 2 ^ 104 = pow-le-pow_right (let two : 0 < 2 = omega arith in two) le in
    omega arith

-- a bit of the value stands only where the mask has one
pub masked-more : (v m b a nv nm : ℕ) → b < 2 → a < 2 → bit_and v m ≡ v → bit_and b a ≡ b → nv ≡ v * 2 + b → nm ≡ m * 2 + a → bit_and nv nm ≡ nv
masked-more v m b a nv nm hb ha high low ev em =
    ap (λ x. bit_and x nm) ev ∙ ap (bit_and (v * 2 + b)) em ∙ and_block 1 v m b a hb ha ∙ ap (λ x. x * 2 + bit_and b a) high ∙ ap (λ x. v * 2 + x) low ∙ sym ev

-- all characters were read
pub spelled-all : (items : List ℕ) (i n m v : ℕ) → i ≡ n → length items ≤ i → trits (bits i m) (bits i v) ≡ map trit_of (take i items) → trits (bits n m) (bits n v) ≡ map trit_of items
spelled-all items i n m v e le h = ap (λ k. trits (bits k m) (bits k v)) (sym e) ∙ h ∙ ap (map trit_of) (take_all i items le)

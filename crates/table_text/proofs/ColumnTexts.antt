-- The columns of a word as digits of its two numbers.
use Rattle.std.proofs.Common.{◌≡◌, ◌∷◌, ◌++◌, ℕ, zero, suc, ◌+◌, ◌-◌, ◌*◌, ◌/◌, ◌%◌, ◌^◌, ◌<◌, ◌≤◌, List, [], length, map, take, drop, refl, ap, sym, ◌∙◌, arith, append_assoc}
use Rattle.std.specs.Prelude.{bit_and, nat_eq}
use Rattle.std.proofs.lemmas.List.{take_at, drop_at}
use Rattle.field_boxes.specs.Headline.Bits.{bits}
use Rattle.field_boxes.specs.Headline.Fields.{width}
use Rattle.field_boxes.proofs.Bits.{length-bits, bits-add, bits-mod}
use Rattle.ternary_words.specs.Word.{trits, mask_bit}
use Rattle.ternary_words.proofs.TritBits.{length-trits, mask-bits, shifted_within, trits-append, value-bits}
use Rattle.table_text.specs.Headline.Hexadecimal.{bit_number, hex_digit, hex_digits}
use Rattle.table_text.specs.Headline.TableText.{column_text, columns_text}

-- the digits of a number, k of them
abbrev pub hex_of : ℕ → ℕ → List ℕ
hex_of zero n = []
hex_of (suc k) n = hex_digit (n / 2 ^ (4 * k) % 16) ∷ hex_of k n

bit_is : (x : ℕ) → x < 2 → bit_number (nat_eq x 1) ≡ x
bit_is zero h = refl
bit_is (suc zero) h = refl
bit_is (suc (suc x)) h = absurd (omega arith)

four_bits : (x : ℕ) → bit_number (nat_eq (x / 8 % 2) 1) * 8 + bit_number (nat_eq (x / 4 % 2) 1) * 4 + bit_number (nat_eq (x / 2 % 2) 1) * 2 + bit_number (nat_eq (x / 1 % 2) 1) ≡ x % 16
four_bits x =
    let a = bit_is (x / 8 % 2) (omega arith) in
    let b = bit_is (x / 4 % 2) (omega arith) in
    let c = bit_is (x / 2 % 2) (omega arith) in
    let d = bit_is (x / 1 % 2) (omega arith) in
    omega arith

-- the digits of so many bits of a number
pub hex-number : (k n : ℕ) → hex_digits (bits (4 * k) n) ≡ hex_of k n
hex-number zero n = refl
hex-number (suc k) n =
    let w : 4 * suc k ≡ 4 + 4 * k = omega arith in
    ap (λ m. hex_digits (bits m n)) w ∙ ap hex_digits (bits-add 4 (4 * k) n)
    ∙ ap (λ d. hex_digit d ∷ hex_digits (bits (4 * k) n)) (four_bits (n / 2 ^ (4 * k)))
    ∙ ap (λ ds. hex_digit (n / 2 ^ (4 * k) % 16) ∷ ds) (hex-number k n)

hex_of-drop : (j k n : ℕ) → drop j (hex_of (j + k) n) ≡ hex_of k n
hex_of-drop zero k n = ap (λ m. hex_of m n) (let e : 0 + k ≡ k = omega arith in e)
hex_of-drop (suc j) k n = ap (λ m. drop (suc j) (hex_of m n)) (let e : suc j + k ≡ suc (j + k) = omega arith in e) ∙ hex_of-drop j k n

hex-drop : (j k n : ℕ) → drop j (hex_digits (bits (4 * (j + k)) n)) ≡ hex_digits (bits (4 * k) n)
hex-drop j k n = ap (drop j) (hex-number (j + k) n) ∙ hex_of-drop j k n ∙ sym (hex-number k n)

hex-last_of : (j k w n : ℕ) → 4 * (j + k) ≡ w → drop j (hex_digits (bits w n)) ≡ hex_digits (bits (4 * k) n)
hex-last_of j k w n e = ap (λ m. drop j (hex_digits (bits m n))) (sym e) ∙ hex-drop j k n

-- the last of the eight digits of 32 bits
pub hex-last : (k n : ℕ) → k ≤ 8 → drop (8 - k) (hex_digits (bits 32 n)) ≡ hex_digits (bits (4 * k) n)
hex-last k n h = hex-last_of (8 - k) k 32 n (omega arith)

-- the eight digits of 32 bits, from the lowest 32 bits alone
pub hex-low : (n : ℕ) → hex_of 8 (n % 2 ^ 32) ≡ hex_digits (bits 32 n)
hex-low n = sym (hex-number 8 (n % 2 ^ 32)) ∙ ap hex_digits (bits-mod 32 n)

-- eight digits, each by itself
pub eight : (a b c d e f g h x : ℕ) → a ≡ hex_digit (x / 2 ^ 28 % 16) → b ≡ hex_digit (x / 2 ^ 24 % 16) → c ≡ hex_digit (x / 2 ^ 20 % 16) → d ≡ hex_digit (x / 2 ^ 16 % 16)
    → e ≡ hex_digit (x / 2 ^ 12 % 16) → f ≡ hex_digit (x / 2 ^ 8 % 16) → g ≡ hex_digit (x / 2 ^ 4 % 16) → h ≡ hex_digit (x % 16)
    → a ∷ b ∷ c ∷ d ∷ e ∷ f ∷ g ∷ h ∷ [] ≡ hex_of 8 x
eight a b c d e f g h x pa pb pc pd pe pf pg ph =
    let last : h ≡ hex_digit (x / 1 % 16) = ph ∙ ap (λ y. hex_digit (y % 16)) (let one : x ≡ x / 1 = omega arith in one) in cc

-- a field's column of a word: so many bits of its value, and of its mask
abbrev pub column_of : ℕ → ℕ → ℕ → List ℕ
column_of w value mask = hex_digits (bits w value) ++ 47 ∷ hex_digits (bits w mask)

-- the first of the fields that are left
pub columns-step : (w k m v f : ℕ) (fs : List ℕ) → width f ≡ w → bit_and v m ≡ v →
    columns_text (f ∷ fs) (trits (bits (w + k) m) (bits (w + k) v)) ≡ column_of w (v / 2 ^ k) (m / 2 ^ k) ++ 32 ∷ columns_text fs (trits (bits k m) (bits k v))
columns-step w k m v f fs e within =
    let high = trits (bits w (m / 2 ^ k)) (bits w (v / 2 ^ k)) in
    let low = trits (bits k m) (bits k v) in
    let same : length (bits w (m / 2 ^ k)) ≡ length (bits w (v / 2 ^ k)) = length-bits w (m / 2 ^ k) ∙ sym (length-bits w (v / 2 ^ k)) in
    let parts : trits (bits (w + k) m) (bits (w + k) v) ≡ high ++ low =
    ap (λ ms. trits ms (bits (w + k) v)) (bits-add w k m) ∙ ap (λ vs. trits (bits w (m / 2 ^ k) ++ bits k m) vs) (bits-add w k v)
    ∙ trits-append (bits w (m / 2 ^ k)) (bits k m) (bits w (v / 2 ^ k)) (bits k v) same in
    let size : length high ≡ w = length-trits (bits w (m / 2 ^ k)) (bits w (v / 2 ^ k)) same ∙ length-bits w (m / 2 ^ k) in
    let front : take (width f) (high ++ low) ≡ high = ap (λ n. take n (high ++ low)) e ∙ take_at high low w size in
    let back : drop (width f) (high ++ low) ≡ low = ap (λ n. drop n (high ++ low)) e ∙ drop_at high low w size in
    let column : column_text high ≡ column_of w (v / 2 ^ k) (m / 2 ^ k) =
    ap (λ bs. hex_digits bs ++ 47 ∷ hex_digits (map mask_bit high)) (value-bits w (m / 2 ^ k) (v / 2 ^ k) (shifted_within k m v within))
    ∙ ap (λ bs. hex_digits (bits w (v / 2 ^ k)) ++ 47 ∷ hex_digits bs) (mask-bits w (m / 2 ^ k) (v / 2 ^ k)) in
    ap (λ ts. columns_text (f ∷ fs) ts) parts ∙ ap (λ ts. column_text ts ++ 32 ∷ columns_text fs (drop (width f) (high ++ low))) front
    ∙ ap (λ ts. column_text high ++ 32 ∷ columns_text fs ts) back ∙ ap (λ t. t ++ 32 ∷ columns_text fs low) column

-- the five columns of a word of fields so wide
pub columns-wide : (a b c d e m v : ℕ) → width 0 ≡ a → width 1 ≡ b → width 2 ≡ c → width 3 ≡ d → width 4 ≡ e → bit_and v m ≡ v →
    columns_text (0 ∷ 1 ∷ 2 ∷ 3 ∷ 4 ∷ []) (trits (bits (a + (b + (c + (d + (e + 0))))) m) (bits (a + (b + (c + (d + (e + 0))))) v))
    ≡ column_of a (v / 2 ^ (b + (c + (d + (e + 0))))) (m / 2 ^ (b + (c + (d + (e + 0))))) ++ 32 ∷ (column_of b (v / 2 ^ (c + (d + (e + 0)))) (m / 2 ^ (c + (d + (e + 0)))) ++ 32 ∷ (column_of c (v / 2 ^ (d + (e + 0))) (m / 2 ^ (d + (e + 0))) ++ 32 ∷ (column_of d (v / 2 ^ (e + 0)) (m / 2 ^ (e + 0)) ++ 32 ∷ (column_of e (v / 2 ^ 0) (m / 2 ^ 0) ++ 32 ∷ []))))
columns-wide a b c d e m v wa wb wc wd we within =
    columns-step a (b + (c + (d + (e + 0)))) m v 0 (1 ∷ 2 ∷ 3 ∷ 4 ∷ []) wa within
    ∙ ap (λ t. column_of a (v / 2 ^ (b + (c + (d + (e + 0))))) (m / 2 ^ (b + (c + (d + (e + 0))))) ++ 32 ∷ t) (columns-step b (c + (d + (e + 0))) m v 1 (2 ∷ 3 ∷ 4 ∷ []) wb within
    ∙ ap (λ t. column_of b (v / 2 ^ (c + (d + (e + 0)))) (m / 2 ^ (c + (d + (e + 0)))) ++ 32 ∷ t) (columns-step c (d + (e + 0)) m v 2 (3 ∷ 4 ∷ []) wc within
    ∙ ap (λ t. column_of c (v / 2 ^ (d + (e + 0))) (m / 2 ^ (d + (e + 0))) ++ 32 ∷ t) (columns-step d (e + 0) m v 3 (4 ∷ []) wd within
    ∙ ap (λ t. column_of d (v / 2 ^ (e + 0)) (m / 2 ^ (e + 0)) ++ 32 ∷ t) (columns-step e 0 m v 4 [] we within))))

in_parts : (v1 m1 v2 m2 v3 m3 v4 m4 v5 m5 : List ℕ) →
    (v1 ++ 47 ∷ [] ++ (m1 ++ 32 ∷ [])) ++ (v2 ++ 47 ∷ [] ++ (m2 ++ 32 ∷ [])) ++ (v3 ++ 47 ∷ [] ++ (m3 ++ 32 ∷ [])) ++ (v4 ++ 47 ∷ [] ++ (m4 ++ 32 ∷ [])) ++ (v5 ++ 47 ∷ [] ++ (m5 ++ 32 ∷ []))
    ≡ v1 ++ 47 ∷ m1 ++ 32 ∷ (v2 ++ 47 ∷ m2 ++ 32 ∷ (v3 ++ 47 ∷ m3 ++ 32 ∷ (v4 ++ 47 ∷ m4 ++ 32 ∷ (v5 ++ 47 ∷ m5 ++ 32 ∷ []))))
in_parts v1 m1 v2 m2 v3 m3 v4 m4 v5 m5 = simp append_assoc

-- a column and the space behind it, as they are put
abbrev pub put_of : ℕ → ℕ → ℕ → List ℕ
put_of digits value mask = hex_digits (bits (4 * digits) value) ++ 47 ∷ [] ++ (hex_digits (bits (4 * digits) mask) ++ 32 ∷ [])

-- the five columns as they are put
pub columns-put : (m v : ℕ) → bit_and v m ≡ v →
    put_of 8 (v / 2 ^ 72) (m / 2 ^ 72) ++ put_of 8 (v / 2 ^ 40) (m / 2 ^ 40) ++ put_of 4 (v / 2 ^ 24) (m / 2 ^ 24) ++ put_of 4 (v / 2 ^ 8) (m / 2 ^ 8) ++ put_of 2 (v / 2 ^ 0) (m / 2 ^ 0)
    ≡ columns_text (0 ∷ 1 ∷ 2 ∷ 3 ∷ 4 ∷ []) (trits (bits 104 m) (bits 104 v))
columns-put m v within =
    in_parts (hex_digits (bits 32 (v / 2 ^ 72))) (hex_digits (bits 32 (m / 2 ^ 72))) (hex_digits (bits 32 (v / 2 ^ 40))) (hex_digits (bits 32 (m / 2 ^ 40)))
    (hex_digits (bits 16 (v / 2 ^ 24))) (hex_digits (bits 16 (m / 2 ^ 24))) (hex_digits (bits 16 (v / 2 ^ 8))) (hex_digits (bits 16 (m / 2 ^ 8)))
    (hex_digits (bits 8 (v / 2 ^ 0))) (hex_digits (bits 8 (m / 2 ^ 0)))
    ∙ sym (columns-wide 32 32 16 16 8 m v refl refl refl refl refl within)

-- Columns are written as they were read, where their digits are in upper case.
use Rattle.std.proofs.Common.{◌≡◌, ◌∷◌, ◌++◌, ℕ, suc, ◌+◌, ◌*◌, ◌/◌, ◌%◌, ◌^◌, ◌<◌, ◌≤◌, List, Bool, true, cond, [], ap, refl, sym, ◌∙◌, arith, fold, length, nat_lt, nat_eq, inl, inr, Some, None, ◌&&◌, ◌||◌, not, nat_le}
use Rattle.std.specs.List.{list_all}
use Rattle.std.specs.Char.{digit_value}
use Rattle.std.proofs.lemmas.Bool.{agree_below_at, and_parts, eqb-true, false≢true, ltb-true, not_from_true, or_cases}
use Rattle.std.proofs.lemmas.List.Folds.{list_all-append}
use Rattle.std.proofs.lemmas.Nat.{div-mul-add, mod-mul-add, pow-add}
use Rattle.std.proofs.lemmas.Option.{option_and_then_some}
use Rattle.std.proofs.Math.Nat.{mul-le-mul_right}
use Rattle.field_boxes.proofs.Bits.{bits-mod}
use Rattle.table_text.specs.Headline.Hexadecimal.{hex_digit, hex_digits}
use Rattle.table_text.proofs.ColumnTexts.{hex_of, hex-number}
use Rattle.table_text.specs.Columns.{Masked, hex_number, masked_of}
use Rattle.text_lines.specs.Headline.Cuts.{split_once}
use Rattle.text_lines.specs.Headline.Numbers.{is_number, number_of, number_within}
use Rattle.table_text.specs.UpperCase.{is_upper}
use Rattle.text_lines.proofs.Joins.{split_back}
use Rattle.table_text.proofs.EntryTexts.{column}

abbrev is_hex : ℕ → Bool
is_hex b = nat_lt (digit_value b) 16

digit_kept : (b : ℕ) → is_hex b ≡ true → nat_lt b 97 ≡ true → hex_digit (digit_value b) ≡ b
digit_kept b h upper =
    elim (or_cases (not (is_hex b)) (nat_eq (hex_digit (digit_value b)) b) (agree_below_at (λ d. not (is_hex d) || nat_eq (hex_digit (digit_value d)) d) (λ d. true) 97 b refl (ltb-true b 97 upper))) [
      | inl none ↦ absurd (false≢true (sym (not_from_true (is_hex b) h) ∙ none))
      | inr some ↦ eqb-true (hex_digit (digit_value b)) b some
    ]

abbrev from : ℕ → List ℕ → ℕ
from n text = fold (λ m b. m * 16 + digit_value b) n text

four_more : (k : ℕ) → 2 ^ (4 * suc k) ≡ 16 * 2 ^ (4 * k)
four_more k = ap (λ n. 2 ^ n) (let e : 4 * suc k ≡ 4 + 4 * k = omega arith in e) ∙ pow-add 2 4 (4 * k)

-- the digits before others
from_more : (text : List ℕ) (n : ℕ) → from n text ≡ n * 2 ^ (4 * length text) + from 0 text
from_more [] n = omega arith
from_more (b ∷ text) n =
    let d = digit_value b in
    rw (from_more text (n * 16 + d), from_more text (0 * 16 + d), four_more (length text)) (omega arith)

from_below : (text : List ℕ) → list_all is_hex text ≡ true → from 0 text < 2 ^ (4 * length text)
from_below [] h = omega arith
from_below (b ∷ text) h =
    let d = digit_value b in
    let parts = and_parts (is_hex b) (list_all is_hex text) h in
    let small = ltb-true d 16 parts.0 in
    let most : (d + 1) * 2 ^ (4 * length text) ≤ 16 * 2 ^ (4 * length text) = mul-le-mul_right (2 ^ (4 * length text)) (omega (arith, small)) in
    rw (from_more text (0 * 16 + d), four_more (length text)) (omega (arith, from_below text parts.1, most))

-- the digits see no higher part
hex_low : (k n : ℕ) → hex_of k n ≡ hex_of k (n % 2 ^ (4 * k))
hex_low k n = sym (hex-number k n) ∙ ap hex_digits (sym (bits-mod (4 * k) n)) ∙ hex-number k (n % 2 ^ (4 * k))

hex_front : (k d m : ℕ) → d < 16 → m < 2 ^ (4 * k) → hex_of (suc k) (d * 2 ^ (4 * k) + m) ≡ hex_digit d ∷ hex_of k m
hex_front k d m small low =
    let high : (d * 2 ^ (4 * k) + m) / 2 ^ (4 * k) ≡ d = div-mul-add d (2 ^ (4 * k)) m low in
    let one : d % 16 ≡ d = omega (arith, small) in
    ap (λ x. hex_digit (x % 16) ∷ hex_of k (d * 2 ^ (4 * k) + m)) high ∙ ap (λ x. hex_digit x ∷ hex_of k (d * 2 ^ (4 * k) + m)) one
    ∙ ap (λ t. hex_digit d ∷ t) (hex_low k (d * 2 ^ (4 * k) + m) ∙ ap (hex_of k) (mod-mul-add d (2 ^ (4 * k)) m low))

-- digits in upper case are those of their number
hex_back : (text : List ℕ) → list_all is_hex text ≡ true → is_upper text ≡ true → hex_of (length text) (from 0 text) ≡ text
hex_back [] h upper = refl
hex_back (b ∷ text) h upper =
    let d = digit_value b in
    let parts = and_parts (is_hex b) (list_all is_hex text) h in
    let case = and_parts (nat_lt b 97) (is_upper text) upper in
    let whole : from (0 * 16 + d) text ≡ d * 2 ^ (4 * length text) + from 0 text = from_more text (0 * 16 + d) ∙ (let e : (0 * 16 + d) * 2 ^ (4 * length text) + from 0 text ≡ d * 2 ^ (4 * length text) + from 0 text = omega arith in e) in
    ap (hex_of (suc (length text))) whole
    ∙ hex_front (length text) d (from 0 text) (ltb-true d 16 parts.0) (from_below text parts.1)
    ∙ ap (λ c. c ∷ hex_of (length text) (from 0 text)) (digit_kept b parts.0 case.0)
    ∙ ap (λ t. b ∷ t) (hex_back text parts.1 case.1)

hex_step : (k greatest : ℕ) (text : List ℕ) (n : ℕ) (s t : Bool) → nat_eq (length text) k ≡ s → (is_number 16 text && nat_le (number_of 16 text) greatest) ≡ t → is_upper text ≡ true →
    cond s (cond t (Some (number_of 16 text)) None) None ≡ Some n → text ≡ hex_of k n
hex_step k greatest text n true true es et upper h =
    let same : number_of 16 text ≡ n = cc in
    let parts = and_parts (is_number 16 text) (nat_le (number_of 16 text) greatest) et in
    let digits = and_parts (nat_lt 0 (length text)) (list_all is_hex text) parts.0 in
    sym (hex_back text digits.1 upper) ∙ ap (λ m. hex_of m (number_of 16 text)) (eqb-true (length text) k es) ∙ ap (hex_of k) same
hex_step k greatest text n s t es et upper h = absurd cc

number_back : (k greatest : ℕ) (text : List ℕ) (n : ℕ) → hex_number k greatest text ≡ Some n → is_upper text ≡ true → text ≡ hex_of k n
unfolding hex_number number_within
number_back k greatest text n h upper = hex_step k greatest text n (nat_eq (length text) k) (is_number 16 text && nat_le (number_of 16 text) greatest) refl refl upper h

upper_parts : (a b : List ℕ) → is_upper (a ++ 47 ∷ b) ≡ true → (is_upper a ≡ true) × (is_upper b ≡ true)
upper_parts a b h =
    let both = and_parts (is_upper a) (is_upper (47 ∷ b)) (sym (list_all-append (λ c. nat_lt c 97) a (47 ∷ b)) ∙ h) in
    (both.0, (and_parts (nat_lt 47 97) (is_upper b) both.1).1)

-- a column
pub masked_back : (k greatest : ℕ) (text : List ℕ) (f : Masked) → masked_of k greatest text ≡ Some f → is_upper text ≡ true → text ≡ column k f.value f.mask
unfolding masked_of
masked_back k greatest text f h upper =
    option_and_then_some _ (split_once 47 text) f h (λ p ep hp.
    option_and_then_some _ (hex_number k greatest p.0) f hp (λ v ev hv.
    option_and_then_some _ (hex_number k greatest p.1) f hv (λ m em hm.
    let joined = split_back 47 text p ep in
    let cases = upper_parts p.0 p.1 (ap is_upper (sym joined) ∙ upper) in
    let same : record { value = v; mask = m } ≡ f = cc in
    joined ∙ ap (λ t. t ++ 47 ∷ p.1) (number_back k greatest p.0 v ev cases.0) ∙ ap (λ t. hex_of k v ++ 47 ∷ t) (number_back k greatest p.1 m em cases.1)
    ∙ ap (λ (x : Masked). column k x.value x.mask) same)))

-- Numbers are written as they were read.
use Rattle.std.proofs.Common.{◌≡◌, ◌∷◌, ℕ, suc, ◌+◌, ◌-◌, ◌*◌, ◌^◌, ◌<◌, ◌≤◌, List, Bool, true, false, cond, [], ap, refl, sym, subst, ◌∙◌, arith, fold, get_or, length, nat_lt, nat_le, Some, None}
use Rattle.std.specs.Prelude.{◌&&◌}
use Rattle.std.specs.List.{list_all}
use Rattle.std.specs.Char.{digit_value}
use Rattle.std.specs.Fmt.{decimal}
use Rattle.std.proofs.lemmas.Bool.{and_parts, and_from, eqb-false, leb-true, lt-ltb, ltb-true}
use Rattle.std.proofs.lemmas.Fmt.{decimal-digits_value, length-decimal-le}
use Rattle.std.proofs.lemmas.Str.{digit_value_digit}
use Rattle.std.proofs.lemmas.Str.Parse.{FoldsDigits, IsDigitsTest, IsNumeralModel, digit_from_value, numerals_by_fold}
use Rattle.text_lines.specs.Headline.Numbers.{is_number, number_of, number_within}
use Rattle.text_lines.specs.Numbers.{has_leading_zero, plain_number}
use Rattle.text_lines.proofs.Decimals.{is_digit}

abbrev AreDigits : List ℕ → Type 0
AreDigits text = list_all is_digit text ≡ true

tells : IsDigitsTest AreDigits
tells = record {
  empty = refl;
  parts = λ c cs h. let both = and_parts (is_digit c) (list_all is_digit cs) h in (digit_from_value c (ltb-true (digit_value c) 10 both.0), both.1);
  more = λ c cs range h. let e = digit_value_digit c range in let high = range.1 in and_from (is_digit c) (list_all is_digit cs) (lt-ltb (digit_value c) 10 (omega (arith, e, high))) h;
}

abbrev from : ℕ → List ℕ → ℕ
from n text = fold (λ m b. m * 10 + digit_value b) n text

folds : FoldsDigits from
folds = record { empty = λ n. refl; more = λ n c cs range. let sum = digit_value_digit c range in ap (λ d. from (n * 10 + d) cs) (let e : digit_value c ≡ c - 48 = omega (arith, sum) in e) }

model : IsNumeralModel AreDigits (from 0)
model = numerals_by_fold AreDigits tells from folds

one_zero : (text : List ℕ) → has_leading_zero text ≡ false → 0 < length text → get_or text 0 0 ≡ 48 → length text ≡ 1
one_zero [] h some first = absurd (omega arith)
one_zero (b ∷ []) h some first = refl
one_zero (b ∷ c ∷ text) h some first = absurd (eqb-false b 48 h first)

plain_step : (greatest : ℕ) (text : List ℕ) (n : ℕ) (s t : Bool) → greatest < 2 ^ 64 → has_leading_zero text ≡ s → (is_number 10 text && nat_le (number_of 10 text) greatest) ≡ t →
    cond s None (cond t (Some (number_of 10 text)) None) ≡ Some n → (decimal n ≡ text) × (n ≤ greatest)
plain_step greatest text n true t room es et h = absurd cc
plain_step greatest text n false false room es et h = absurd cc
plain_step greatest text n false true room es et h =
    let same : number_of 10 text ≡ n = cc in
    let parts = and_parts (is_number 10 text) (nat_le (number_of 10 text) greatest) et in
    let digits = and_parts (nat_lt 0 (length text)) (list_all is_digit text) parts.0 in
    let some = ltb-true 0 (length text) digits.0 in
    let small = leb-true (number_of 10 text) greatest parts.1 in
    (ap decimal (sym same) ∙ decimal-digits_value model text digits.1 some (one_zero text es some) (omega (arith, small, room)), subst (λ m. m ≤ greatest) same small)

-- a number without leading zeros
pub plain_told : (greatest : ℕ) (text : List ℕ) (n : ℕ) → greatest < 2 ^ 64 → plain_number greatest text ≡ Some n → (decimal n ≡ text) × (n ≤ greatest)
unfolding plain_number number_within
plain_told greatest text n room h = plain_step greatest text n (has_leading_zero text) (is_number 10 text && nat_le (number_of 10 text) greatest) room refl refl h

pub plain_back : (greatest : ℕ) (text : List ℕ) (n : ℕ) → greatest < 2 ^ 64 → plain_number greatest text ≡ Some n → decimal n ≡ text
plain_back greatest text n room h = (plain_told greatest text n room h).0

-- below 10 ^ (k + 1) it has at most k + 1 digits
pub plain_length : (greatest : ℕ) (text : List ℕ) (n k : ℕ) → greatest < 2 ^ 64 → plain_number greatest text ≡ Some n → n < 10 ^ suc k → length text ≤ suc k
plain_length greatest text n k room h small =
    let told = plain_told greatest text n room h in
    subst (λ (t : List ℕ). length t ≤ suc k) told.0 (length-decimal-le (suc k) n (omega arith) small (omega (arith, told.1, room)))

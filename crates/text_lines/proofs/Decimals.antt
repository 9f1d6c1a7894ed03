-- Decimal numbers are read as they are written.
use Rattle.std.proofs.Common.{◌≡◌, ◌∷◌, ◌++◌, ℕ, zero, suc, ◌+◌, ◌*◌, ◌/◌, ◌%◌, ◌^◌, ◌<◌, ◌≤◌, List, Bool, true, false, [], refl, ◌∙◌, arith, zero-add, get_or, length, nat_lt, ◌&&◌, Some}
use Rattle.std.specs.List.{list_all}
use Rattle.std.specs.Char.{digit_value}
use Rattle.std.specs.Fmt.{decimal}
use Rattle.std.proofs.lemmas.Bool.{lt-ltb, le-leb, and_from, ltb-true, ne_eqb}
use Rattle.std.proofs.lemmas.Bool.Decides.{nat_tests}
use Rattle.std.proofs.lemmas.Fmt.{decimal_by_steps, decimal_digit, decimal_nonempty, first_decimal, length-decimal-le}
use Rattle.std.proofs.lemmas.List.Folds.{list_all-append}
use Rattle.std.proofs.lemmas.List.Sums.{fold-append}
use Rattle.std.proofs.lemmas.Str.{digit_value_digit}
use Rattle.std.proofs.lemmas.Str.Parse.{digit_from_value}
use Rattle.text_lines.specs.Headline.Numbers.{is_number, number_of, number_within, short_number}
use Rattle.text_lines.specs.Numbers.{has_leading_zero, plain_number}
use Rattle.text_lines.proofs.Joins.{all_wider, is_other}

abbrev pub is_digit : ℕ → Bool
is_digit b = nat_lt (digit_value b) 10

-- a byte that may stand in a word of an address or a number
abbrev pub is_number_byte : ℕ → Bool
is_number_byte b = nat_lt 45 b && nat_lt b 58

digit_range : (b : ℕ) → is_digit b ≡ true → (48 ≤ b) × (b ≤ 57)
digit_range b h = let range = digit_from_value b (ltb-true (digit_value b) 10 h) in (range.0, range.1)

pub digit_number : (b : ℕ) → is_digit b ≡ true → is_number_byte b ≡ true
digit_number b h = let range = digit_range b h in let low = range.0 in let high = range.1 in grind (arith, nat_tests)

-- the digits write the number
abbrev Writes : ℕ → List ℕ → Type 0
Writes n digits = (list_all is_digit digits ≡ true) × (number_of 10 digits ≡ n)

digit_value-last : (d : ℕ) → d < 10 → digit_value (48 + d) ≡ d
digit_value-last d h = let e = digit_value_digit (48 + d) (omega arith, omega arith) in omega (arith, e)

one_digit : (n : ℕ) → n < 10 → Writes n ((48 + n) ∷ [])
one_digit n h =
    let e = digit_value-last n h in (
      and_from (is_digit (48 + n)) true (rw e (lt-ltb n 10 h)) refl,
      zero-add (digit_value (48 + n)) ∙ e,
    )

more_digits : (n : ℕ) (digits : List ℕ) → 10 ≤ n → Writes (n / 10) digits → Writes n (digits ++ (48 + n % 10) ∷ [])
more_digits n digits h p =
    let last : digit_value (48 + n % 10) ≡ n % 10 = digit_value-last (n % 10) (omega arith) in
    let all : list_all is_digit ((48 + n % 10) ∷ []) ≡ true = and_from (is_digit (48 + n % 10)) true (rw last (lt-ltb (n % 10) 10 (omega arith))) refl in
    let value : number_of 10 digits * 10 + digit_value (48 + n % 10) ≡ n = rw (p.1, last) (omega arith) in (
      list_all-append is_digit digits ((48 + n % 10) ∷ []) ∙ and_from (list_all is_digit digits) (list_all is_digit ((48 + n % 10) ∷ [])) p.0 all,
      fold-append (λ m b. m * 10 + digit_value b) 0 digits ((48 + n % 10) ∷ []) ∙ value,
    )

written : (n : ℕ) → n < 2 ^ 64 → Writes n (decimal n)
written n h = decimal_by_steps Writes one_digit more_digits n h

pub decimal-digits : (n : ℕ) → n < 2 ^ 64 → list_all is_digit (decimal n) ≡ true
decimal-digits n h = (written n h).0

pub number_of-decimal : (n : ℕ) → n < 2 ^ 64 → number_of 10 (decimal n) ≡ n
number_of-decimal n h = (written n h).1

pub is_number-decimal : (n : ℕ) → n < 2 ^ 64 → is_number 10 (decimal n) ≡ true
is_number-decimal n h = and_from (nat_lt 0 (length (decimal n))) (list_all is_digit (decimal n)) (lt-ltb 0 (length (decimal n)) (decimal_nonempty n h)) (decimal-digits n h)

pub number_within-decimal : (greatest n : ℕ) → n < 2 ^ 64 → n ≤ greatest → number_within 10 greatest (decimal n) ≡ Some n
unfolding number_within
number_within-decimal greatest n h le = rw (is_number-decimal n h, number_of-decimal n h, le-leb n greatest le) refl

pub short_number-decimal : (digits greatest n : ℕ) → n < 2 ^ 64 → 0 < digits → n < 10 ^ digits → n ≤ greatest → short_number digits 10 greatest (decimal n) ≡ Some n
unfolding short_number
short_number-decimal digits greatest n h some short le = rw (le-leb (length (decimal n)) digits (length-decimal-le digits n some short h)) (number_within-decimal greatest n h le)

-- a text that begins above '0' has no leading zero
first_above : (text : List ℕ) → 48 < get_or text 0 0 → has_leading_zero text ≡ false
first_above [] h = refl
first_above (b ∷ []) h = refl
first_above (b ∷ c ∷ text) h = ne_eqb b 48 (λ e. omega (arith, e))

no_leading_zero : (n : ℕ) → n < 2 ^ 64 → has_leading_zero (decimal n) ≡ false
no_leading_zero zero h = rw (decimal_digit 0 (omega arith)) refl
no_leading_zero (suc n) h = first_above (decimal (suc n)) (first_decimal (suc n) (omega arith) h)

pub plain_number-decimal : (greatest n : ℕ) → n < 2 ^ 64 → n ≤ greatest → plain_number greatest (decimal n) ≡ Some n
unfolding plain_number
plain_number-decimal greatest n h le = rw (no_leading_zero n h) (number_within-decimal greatest n h le)

-- a digit is none of the separators below '0'
pub digit_other : (separator : ℕ) → separator < 48 → (b : ℕ) → is_digit b ≡ true → is_other separator b ≡ true
digit_other separator lt b h = let range = digit_from_value b (ltb-true (digit_value b) 10 h) in let low = range.0 in rw (ne_eqb b separator (λ e. omega (arith, low, e, lt))) refl

pub decimal-all : (p : ℕ → Bool) → ((b : ℕ) → is_digit b ≡ true → p b ≡ true) → (n : ℕ) → n < 2 ^ 64 → list_all p (decimal n) ≡ true
decimal-all p wider n h = all_wider is_digit p wider (decimal n) (decimal-digits n h)

pub decimal-other : (separator n : ℕ) → separator < 48 → n < 2 ^ 64 → list_all (is_other separator) (decimal n) ≡ true
decimal-other separator n lt h = decimal-all (is_other separator) (digit_other separator lt) n h

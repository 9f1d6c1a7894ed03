-- Digits are bytes of ASCII.
use Rattle.std.proofs.Common.{◌≡◌, ◌∷◌, ℕ, zero, suc, ◌<◌, ◌≤◌, List, [], Bool, true, false, refl, arith, nat_lt}
use Rattle.std.specs.List.{list_all}
use Rattle.std.specs.Char.{digit_value}
use Rattle.std.specs.Str.{IsAscii}
use Rattle.std.proofs.lemmas.Str.Ascii.{IsAscii-nil}
use Rattle.std.proofs.lemmas.Bool.{and_parts, ltb-true, ltb-false, le-ltb}

no_digit : (b : ℕ) → 128 ≤ b → digit_value b ≡ 36
no_digit b h = rw (le-ltb b 48 (omega arith), le-ltb b 58 (omega arith), le-ltb b 65 (omega arith), le-ltb b 91 (omega arith), le-ltb b 97 (omega arith), le-ltb b 123 (omega arith)) refl

digit_low : (b base : ℕ) (t : Bool) → nat_lt b 128 ≡ t → base ≤ 36 → nat_lt (digit_value b) base ≡ true → b < 128
digit_low b base true e le h = ltb-true b 128 e
digit_low b base false e le h =
    let none = no_digit b (ltb-false b 128 e) in
    let less = ltb-true (digit_value b) base h in
    absurd (omega arith)

ascii-cons : (b : ℕ) (bs : List ℕ) → b < 128 → IsAscii bs → IsAscii (b ∷ bs)
ascii-cons b bs low rest zero = low
ascii-cons b bs low rest (suc i) = rest i

pub digits_ascii : (base : ℕ) (text : List ℕ) → base ≤ 36 → list_all (λ b. nat_lt (digit_value b) base) text ≡ true → IsAscii text
digits_ascii base [] le h = IsAscii-nil
digits_ascii base (b ∷ bs) le h =
    let parts = and_parts (nat_lt (digit_value b) base) (list_all (λ c. nat_lt (digit_value c) base) bs) h in
    ascii-cons b bs (digit_low b base (nat_lt b 128) refl le parts.0) (digits_ascii base bs le parts.1)

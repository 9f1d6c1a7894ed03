-- Bits as hexadecimal digits in upper case.
use Rattle.std.specs.Prelude.{ℕ, ◌+◌, ◌*◌, Bool, true, false, List, [], ◌∷◌, nat_lt, if◌then◌else◌}

abbrev pub bit_number : Bool → ℕ
bit_number false = 0
bit_number true = 1

-- '0' to '9', and then 'A' to 'F'
abbrev pub hex_digit : ℕ → ℕ
hex_digit n = if nat_lt n 10 then 48 + n else 55 + n

-- a digit for each four bits, the highest first
abbrev pub hex_digits : List Bool → List ℕ
hex_digits (a ∷ b ∷ c ∷ d ∷ bits) = hex_digit (bit_number a * 8 + bit_number b * 4 + bit_number c * 2 + bit_number d) ∷ hex_digits bits
hex_digits bits = []

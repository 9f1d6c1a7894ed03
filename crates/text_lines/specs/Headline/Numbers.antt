-- Numbers written in digits.
use Rattle.std.specs.Prelude.{ℕ, ◌+◌, ◌*◌, Bool, ◌&&◌, List, fold, length, nat_le, nat_lt, Option, Some, None, if◌then◌else◌}
use Rattle.std.specs.List.{list_all}
use Rattle.std.specs.Char.{digit_value}

-- one or more digits of the base
abbrev pub is_number : ℕ → List ℕ → Bool
is_number base text = nat_lt 0 (length text) && list_all (λ b. nat_lt (digit_value b) base) text

-- what the digits stand for, the highest first
abbrev pub number_of : ℕ → List ℕ → ℕ
number_of base text = fold (λ n b. n * base + digit_value b) 0 text

-- the number that the text writes in the base, leading zeros allowed, where it is no greater than this
unfoldable pub number_within : ℕ → ℕ → List ℕ → Option ℕ
number_within base greatest text = if is_number base text && nat_le (number_of base text) greatest then Some (number_of base text) else None

-- the same, in at most so many digits
unfoldable pub short_number : ℕ → ℕ → ℕ → List ℕ → Option ℕ
short_number digits base greatest text = if nat_le (length text) digits then number_within base greatest text else None

-- Two hexadecimal numbers, a value and its mask: '0xP/0xM'.
use Rattle.std.specs.Prelude.{ℕ, ◌==◌, ◌&&◌, ◌||◌, List, [], ◌∷◌, Option, Some, None, if◌then◌else◌}
use Rattle.text_lines.specs.Headline.Cuts.{split_once}
use Rattle.text_lines.specs.Headline.Numbers.{short_number}
use Rattle.text_lines.specs.Headline.Steps.{◌>>=◌}

-- '0x' or '0X', and hexadecimal digits, at most so many: a number that is no greater than this
unfoldable pub hex_number : ℕ → ℕ → List ℕ → Option ℕ
hex_number digits greatest [] = None
hex_number digits greatest (zero_digit ∷ []) = None
hex_number digits greatest (zero_digit ∷ x ∷ text) = if zero_digit == 48 && (x == 120 || x == 88) then short_number digits 16 greatest text else None

-- such a value and such a mask
unfoldable pub value_and_mask : ℕ → ℕ → List ℕ → Option (ℕ × ℕ)
value_and_mask digits greatest text = do
  parts ← split_once 47 text
  value ← hex_number digits greatest parts.0
  mask ← hex_number digits greatest parts.1
  Some (value, mask)

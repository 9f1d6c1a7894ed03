-- Decimal numbers without leading zeros.
use Rattle.std.specs.Prelude.{ℕ, ◌==◌, Bool, false, List, [], ◌∷◌, Option, None, if◌then◌else◌}
use Rattle.text_lines.specs.Headline.Numbers.{number_within}

-- whether the first of two digits or more is a zero
abbrev pub has_leading_zero : List ℕ → Bool
has_leading_zero [] = false
has_leading_zero (b ∷ []) = false
has_leading_zero (b ∷ c ∷ text) = b == 48

-- the decimal number that the text writes without leading zeros, where it is no greater than this
unfoldable pub plain_number : ℕ → List ℕ → Option ℕ
plain_number greatest text = if has_leading_zero text then None else number_within 10 greatest text

-- Classes of bytes.
use Rattle.std.proofs.Common.{◌≡◌, ℕ, Bool, true, arith, ◌&&◌}
use Rattle.std.specs.Char.{is_ascii}
use Rattle.std.proofs.lemmas.Bool.Decides.{nat_tests}
use Rattle.text_lines.proofs.Decimals.{is_number_byte}
use Rattle.text_lines.proofs.Joins.{is_other}
use Rattle.filter_reader.proofs.Spelling.{is_plain}

-- a byte that may stand in a line: of ASCII, no line feed and no carriage return
abbrev pub is_line_byte : ℕ → Bool
is_line_byte b = is_ascii b && (is_other 10 b && is_other 13 b)

pub number_plain : (b : ℕ) → is_number_byte b ≡ true → is_plain b ≡ true
number_plain b h = grind (arith, nat_tests)

pub number_line : (b : ℕ) → is_number_byte b ≡ true → is_line_byte b ≡ true
number_line b h = grind (arith, nat_tests)

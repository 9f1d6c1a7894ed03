-- The names of decisions.
use Rattle.std.specs.Prelude.{ℕ, Bool, ◌&&◌, ◌||◌, ◌==◌, nat_le, List, [], ◌∷◌, length, Option, unwrap_or}
use Rattle.std.specs.List.{list_all}
use Rattle.std.specs.Char.{is_ascii_alphanumeric}

-- the word for no decision
abbrev pub miss : List ℕ
miss = 109 ∷ 105 ∷ 115 ∷ 115 ∷ []

-- a letter of ASCII, a digit, '_', '-' or '.'
abbrev pub is_word_byte : ℕ → Bool
is_word_byte b = is_ascii_alphanumeric b || b == 95 || b == 45 || b == 46

-- 1 to 32 such bytes
abbrev pub has_word_form : List ℕ → Bool
has_word_form text = nat_le 1 (length text) && nat_le (length text) 32 && list_all is_word_byte text

-- the text of a decision
abbrev pub text_of : Option (List ℕ) → List ℕ
text_of name = unwrap_or name miss

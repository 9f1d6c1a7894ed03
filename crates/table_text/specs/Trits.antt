-- The word of an entry in the first version: a character for each trit of the slot.
use Rattle.std.specs.Prelude.{ℕ, ◌==◌, Bool, ◌||◌, List, map, take, drop, Some, None, if◌then◌else◌}
use Rattle.std.specs.List.{list_all}
use Rattle.ternary_words.specs.Headline.Word.{Trit}

-- '*', '0' or '1'
abbrev pub is_trit : ℕ → Bool
is_trit b = b == 42 || b == 48 || b == 49

abbrev pub trit_of : ℕ → Trit
trit_of b = if b == 42 then None else Some (b == 49)

-- the first 104 characters
abbrev pub word_of_trits : List ℕ → List Trit
word_of_trits text = map trit_of (take 104 text)

-- the characters after them are '*'
abbrev pub is_padded : List ℕ → Bool
is_padded text = list_all (λ b. b == 42) (drop 104 text)

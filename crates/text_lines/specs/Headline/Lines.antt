-- The lines of a text.
use Rattle.std.specs.Prelude.{ℕ, ◌-◌, nat_eq, ◌==◌, Bool, true, not, ◌||◌, List, [], ◌∷◌, find, length, map, take, if◌then◌else◌}
use Rattle.std.specs.List.{ends_with, onto_first}
use Rattle.std.specs.Option.{option_map_or}

-- the lines, each up to its line feed or the end of the text
abbrev pub lines_of : List ℕ → List (List ℕ)
lines_of [] = []
lines_of (b ∷ bytes) = if b == 10 then [] ∷ lines_of bytes else onto_first b (lines_of bytes)

-- the line, less one carriage return at its end
abbrev pub without_return : List ℕ → List ℕ
without_return line = if ends_with nat_eq line (13 ∷ []) then take (length line - 1) line else line

-- the lines, each less one carriage return at its end
abbrev pub text_lines : List ℕ → List (List ℕ)
text_lines text = map without_return (lines_of text)

-- a space or a tab
abbrev pub is_blank : ℕ → Bool
is_blank b = b == 32 || b == 9

-- blanks alone, or a line whose first byte that isn't blank is '#'
abbrev pub is_skipped : List ℕ → Bool
is_skipped line = option_map_or (λ b. b == 35) (find (λ b. not (is_blank b)) line) true

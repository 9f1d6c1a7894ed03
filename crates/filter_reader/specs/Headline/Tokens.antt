-- The tokens of a line: blanks part them, and each ':' and each ',' is one by itself.
use Rattle.std.specs.Prelude.{ℕ, ◌==◌, Bool, false, not, ◌&&◌, ◌||◌, List, [], ◌∷◌, Option, Some, None, if◌then◌else◌}
use Rattle.std.specs.List.{onto_first}
use Rattle.text_lines.specs.Headline.Lines.{is_blank}

-- ':' or ','
abbrev pub is_mark : ℕ → Bool
is_mark b = b == 58 || b == 44

-- whether the text goes on with neither a blank nor a mark
abbrev pub goes_on : List ℕ → Bool
goes_on [] = false
goes_on (b ∷ text) = not (is_blank b) && not (is_mark b)

-- the tokens of a line, in order
abbrev pub tokens : List ℕ → List (List ℕ)
tokens [] = []
tokens (b ∷ text) =
    if is_blank b then tokens text
    else (if not (is_mark b) && goes_on text then onto_first b (tokens text) else (b ∷ []) ∷ tokens text)

-- the first token, and those behind it
abbrev pub first_token : List (List ℕ) → Option (List ℕ × List (List ℕ))
first_token [] = None
first_token (token ∷ more) = Some (token, more)

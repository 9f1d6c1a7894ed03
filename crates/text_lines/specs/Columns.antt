-- The columns of a line: blanks part them.
use Rattle.std.specs.Prelude.{ℕ, Bool, false, not, List, [], ◌∷◌, Option, Some, None, if◌then◌else◌}
use Rattle.std.specs.List.{onto_first}
use Rattle.text_lines.specs.Headline.Lines.{is_blank}

-- whether a column stands right at the front of the text
abbrev pub begins_column : List ℕ → Bool
begins_column [] = false
begins_column (b ∷ text) = not (is_blank b)

-- the columns, in order
abbrev pub columns : List ℕ → List (List ℕ)
columns [] = []
columns (b ∷ text) =
    if is_blank b then columns text
    else (if begins_column text then onto_first b (columns text) else (b ∷ []) ∷ columns text)

-- the first column, and those behind it
abbrev pub first_column : List (List ℕ) → Option (List ℕ × List (List ℕ))
first_column [] = None
first_column (column ∷ more) = Some (column, more)

-- the text from the first byte on that passes a test
abbrev pub from_first : (ℕ → Bool) → List ℕ → List ℕ
from_first test [] = []
from_first test (b ∷ text) = if test b then b ∷ text else from_first test text

-- what stands behind the first column
abbrev pub behind_column : List ℕ → List ℕ
behind_column text = from_first is_blank (from_first (λ b. not (is_blank b)) text)

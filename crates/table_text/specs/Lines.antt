-- The lines of a text.
use Rattle.std.specs.Prelude.{ℕ, ◌==◌, Bool, true, false, List, [], ◌∷◌, if◌then◌else◌}

-- the bytes of a line, and whether a line feed ends it
pub record Line : Type 0 where
  pub text : List ℕ
  pub ended : Bool

-- a byte in front of what the rest of the bytes come to
abbrev pub onto_first : ℕ → List Line → List Line
onto_first b [] = record { text = b ∷ []; ended = false } ∷ []
onto_first b (line ∷ lines) = record { text = b ∷ line.text; ended = line.ended } ∷ lines

-- the lines, each up to its line feed or the end of the text
abbrev pub lines_of : List ℕ → List Line
lines_of [] = []
lines_of (b ∷ bytes) = if b == 10 then record { text = []; ended = true } ∷ lines_of bytes else onto_first b (lines_of bytes)

-- What lines come to, one after another.
use Rattle.std.specs.Prelude.{ℕ, ◌+◌, List, [], ◌∷◌, Result, Ok, Err, if◌then◌else◌}
use Rattle.text_lines.specs.Headline.Fallible.{◌>>=◌}
use Rattle.text_lines.specs.Headline.Lines.{is_skipped}

-- a bad line, counted from 1, and its first reason
pub record BadLine (R : Type 0) : Type 0 where
  pub line : ℕ
  pub reason : R

-- what a line of this number comes to
abbrev pub at_line : {A R : Type 0} → ℕ → Result A R → Result A (BadLine R)
at_line number (Ok read) = Ok read
at_line number (Err reason) = Err (record { line = number; reason = reason })

-- what was read with lines behind it, each read by a step, of which the first has this number
abbrev pub read_from : {A R : Type 0} → (A → List ℕ → Result A R) → A → ℕ → List (List ℕ) → Result A (BadLine R)
read_from step read number [] = Ok read
read_from step read number (line ∷ lines) = at_line number (if is_skipped line then Ok read else step read line) >>= (λ next. read_from step next (number + 1) lines)

-- Texts that are read line by line, and what refuses one.
use Rattle.std.specs.Prelude.{◌≡◌, ℕ, List, [], ◌∷◌, ◌++◌, Result, Ok, Err}
use Rattle.text_lines.specs.Headline.Fallible.{◌>>=◌}
use Rattle.text_lines.specs.Headline.Lines.{text_lines}
use Rattle.text_lines.specs.Headline.Reading.{BadLine, read_from}
use Rattle.text_lines.specs.declared.error.LineError.{LineError}
use Rattle.text_lines.specs.declared.error.LineError.TheVariants as line_errors
use Rattle.text_lines.specs.declared.error.TextError.{TextError}
use Rattle.text_lines.specs.declared.error.TextError.TheVariants as errors

-- what the lines of a text come to behind what was read, or its first bad line
abbrev pub read_text : {A R : Type 0} → (A → List ℕ → Result A R) → A → List ℕ → Result A (BadLine R)
read_text step read text = read_from step read 1 (text_lines text)

-- items, and that of one more line
abbrev pub with_item : {A R : Type 0} → (List ℕ → Result A R) → List A → List ℕ → Result (List A) R
with_item item_of items line = item_of line >>= (λ item. Ok (items ++ item ∷ []))

-- the items of the lines that aren't skipped, or the first bad line
abbrev pub items_of : {A R : Type 0} → (List ℕ → Result A R) → List ℕ → Result (List A) (BadLine R)
items_of item_of text = read_text (with_item item_of) [] text

-- a line is refused for its reason, unless memory was
abbrev pub IsLineRefused : {A R : Type 0} → LineError R → Result A R → Type 0
IsLineRefused line_errors.Memory read = Unit {0}
IsLineRefused (line_errors.Bad reason) read = read ≡ Err reason

-- a text is refused for its first bad line, unless memory was
abbrev pub IsTextRefused : {A R : Type 0} → TextError R → Result A (BadLine R) → Type 0
IsTextRefused errors.Memory read = Unit {0}
IsTextRefused (errors.BadLine line reason) read = read ≡ Err (record { line = line; reason = reason })

-- the error of a line as the error of its text
abbrev pub BecomesTextError : {R : Type 0} → LineError R → ℕ → TextError R → Type 0
BecomesTextError line_errors.Memory number error = error ≡ errors.Memory
BecomesTextError (line_errors.Bad reason) number error = error ≡ errors.BadLine number reason

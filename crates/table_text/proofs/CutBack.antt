-- The lines of a text are joined to what it was.
use Rattle.std.proofs.Common.{◌≡◌, ◌∷◌, ◌++◌, ℕ, List, true, [], ap, refl, sym, ◌∙◌, nat_eq, if◌then◌else◌, flat_map, eqb-true}
use Rattle.std.proofs.lemmas.Bool.{cond_both}
use Rattle.table_text.specs.Lines.{Line, lines_of, onto_first}

-- the bytes of a line, and its end
abbrev pub line_bytes : Line → List ℕ
line_bytes line = line.text ++ (if line.ended then 10 ∷ [] else [])

onto_back : (b : ℕ) (lines : List Line) → flat_map line_bytes (onto_first b lines) ≡ b ∷ flat_map line_bytes lines
onto_back b [] = refl
onto_back b (line ∷ lines) = refl

-- the lines of a text, one after another
pub lines_back : (text : List ℕ) → flat_map line_bytes (lines_of text) ≡ text
lines_back [] = refl
lines_back (b ∷ bytes) =
    cond_both (nat_eq b 10) (record { text = []; ended = true } ∷ lines_of bytes) (onto_first b (lines_of bytes)) (λ (lines : List Line). flat_map line_bytes lines ≡ b ∷ bytes)
    (λ e. ap (λ t. 10 ∷ t) (lines_back bytes) ∙ ap (λ c. c ∷ bytes) (sym (eqb-true b 10 e)))
    (λ e. onto_back b (lines_of bytes) ∙ ap (λ t. b ∷ t) (lines_back bytes))

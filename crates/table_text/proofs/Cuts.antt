-- The lines of a text, cut off at their line feeds and cut again where they were joined.
use Rattle.std.proofs.Common.{◌≡◌, ◌≢◌, ◌∷◌, ◌++◌, ℕ, List, Bool, true, false, cond, [], ap, refl, Some, None, Option, option_map, nat_eq, ◌==◌, MatchOption}
use Rattle.std.specs.List.{list_all}
use Rattle.std.proofs.lemmas.Bool.{and_parts, not-true}
use Rattle.text_lines.specs.Headline.Cuts.{split_once}
use Rattle.text_lines.proofs.Cuts.{split_once-cons}
use Rattle.text_lines.proofs.Joins.{is_other}
use Rattle.table_text.specs.Lines.{Line, lines_of, onto_first}

abbrev pub whole_line : List ℕ → Bool → Line
whole_line text ended = record { text = text; ended = ended }

-- what a cut at the first line feed says of the lines
abbrev pub CutsLine : List ℕ → Option (List ℕ × List ℕ) → Type 0
CutsLine text o = MatchOption o (text ≢ [] → lines_of text ≡ whole_line text false ∷ []) (λ p. lines_of text ≡ whole_line p.0 true ∷ lines_of p.1)

no_line : (b : ℕ) (bs : List ℕ) → (bs ≢ [] → lines_of bs ≡ whole_line bs false ∷ []) → onto_first b (lines_of bs) ≡ whole_line (b ∷ bs) false ∷ []
no_line b [] h = refl
no_line b (c ∷ bs) h = ap (onto_first b) (h (λ e. cc))

cut_step : (b : ℕ) (bs : List ℕ) (t : Bool) (o : Option (List ℕ × List ℕ)) → nat_eq b 10 ≡ t → CutsLine bs o → CutsLine (b ∷ bs) (cond t (Some ([], bs)) (option_map {U = List ℕ × List ℕ} (λ p. (b ∷ p.0, p.1)) o))
cut_step b bs true o e h = rw e refl
cut_step b bs false None e h = λ some. rw e (no_line b bs h)
cut_step b bs false (Some p) e h = rw e (ap (onto_first b) h)

pub cuts_line : (text : List ℕ) → CutsLine text (split_once 10 text)
cuts_line [] = λ some. absurd (some refl)
cuts_line (b ∷ bs) = rw (split_once-cons 10 b bs) (cut_step b bs (nat_eq b 10) (split_once 10 bs) refl (cuts_line bs))

-- a line, and then its end and a rest
pub lines_of-line : (line rest : List ℕ) → list_all (is_other 10) line ≡ true → lines_of (line ++ 10 ∷ rest) ≡ whole_line line true ∷ lines_of rest
lines_of-line [] rest h = refl
lines_of-line (b ∷ line) rest h =
    let parts = and_parts (is_other 10 b) (list_all (is_other 10) line) h in
    rw (not-true (b == 10) parts.0) (ap (onto_first b) (lines_of-line line rest parts.1))

-- A text cut at its first separator, and the lines of a text.
use Rattle.std.proofs.Common.{◌≡◌, ◌≢◌, ◌∷◌, ℕ, suc, ◌+◌, List, Bool, true, false, cond, [], ap, refl, sym, ◌∙◌, length, take, drop, add-one, Some, None}
use Rattle.std.specs.Prelude.{position, Option, option_map, nat_eq, MatchOption}
use Rattle.std.specs.List.{onto_first}
use Rattle.std.proofs.lemmas.Bool.{false≢true}
use Rattle.text_lines.specs.Headline.Cuts.{split_once}
use Rattle.text_lines.specs.Headline.Lines.{lines_of}
use Rattle.text_lines.proofs.Positions.{position-cons}

split_step : (b : ℕ) (bs : List ℕ) (t : Bool) (o : Option ℕ) →
    option_map {U = List ℕ × List ℕ} (λ i. (take i (b ∷ bs), drop (i + 1) (b ∷ bs))) (cond t (Some 0) (option_map (λ i. i + 1) o)) ≡ cond t (Some ([], bs)) (option_map {U = List ℕ × List ℕ} (λ p. (b ∷ p.0, p.1)) (option_map {U = List ℕ × List ℕ} (λ i. (take i bs, drop (i + 1) bs)) o))
split_step b bs true o = refl
split_step b bs false None = refl
split_step b bs false (Some i) = let e : i + 1 ≡ suc i = add-one i in let f : i + 1 + 1 ≡ suc (i + 1) = add-one (i + 1) in rw (f, e) refl

-- a cut of a text of one byte more
pub split_once-cons : (s b : ℕ) (bs : List ℕ) → split_once s (b ∷ bs) ≡ cond (nat_eq b s) (Some ([], bs)) (option_map {U = List ℕ × List ℕ} (λ p. (b ∷ p.0, p.1)) (split_once s bs))
split_once-cons s b bs = ap (option_map {U = List ℕ × List ℕ} (λ i. (take i (b ∷ bs), drop (i + 1) (b ∷ bs)))) (position-cons (λ c. nat_eq c s) b bs) ∙ split_step b bs (nat_eq b s) (position (λ c. nat_eq c s) bs)

-- what a cut at the first line feed says of the lines
abbrev pub CutsLine : List ℕ → Option (List ℕ × List ℕ) → Type 0
CutsLine text o = MatchOption o (text ≢ [] → lines_of text ≡ text ∷ []) (λ p. lines_of text ≡ p.0 ∷ lines_of p.1)

no_line : (b : ℕ) (bs : List ℕ) → (bs ≢ [] → lines_of bs ≡ bs ∷ []) → onto_first b (lines_of bs) ≡ (b ∷ bs) ∷ []
no_line b [] h = refl
no_line b (c ∷ bs) h = ap (onto_first b) (h (λ e. cc))

cut_step : (b : ℕ) (bs : List ℕ) (t : Bool) (o : Option (List ℕ × List ℕ)) → nat_eq b 10 ≡ t → CutsLine bs o → CutsLine (b ∷ bs) (cond t (Some ([], bs)) (option_map {U = List ℕ × List ℕ} (λ p. (b ∷ p.0, p.1)) o))
cut_step b bs true o e h = rw e refl
cut_step b bs false None e h = λ some. rw e (no_line b bs h)
cut_step b bs false (Some p) e h = rw e (ap (onto_first b) h)

pub cuts_line : (text : List ℕ) → CutsLine text (split_once 10 text)
cuts_line [] = λ some. absurd (some refl)
cuts_line (b ∷ bs) = rw (split_once-cons 10 b bs) (cut_step b bs (nat_eq b 10) (split_once 10 bs) refl (cuts_line bs))

-- a text that doesn't test as empty has a byte
pub has_byte : (text : List ℕ) → nat_eq (length text) 0 ≡ false → text ≢ []
has_byte text h e = false≢true (sym h ∙ ap (λ (t : List ℕ). nat_eq (length t) 0) e)

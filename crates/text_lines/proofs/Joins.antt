-- Texts are cut again where they were joined, and joined where they were cut; and texts whose bytes are of one class.
use Rattle.std.proofs.Common.{◌≡◌, ◌∷◌, ◌++◌, ℕ, ◌+◌, List, Bool, true, false, cond, [], ap, refl, sym, ◌∙◌, arith, length, length-append, Some, None}
use Rattle.std.specs.Prelude.{Option, nat_eq, not, option_map, ◌==◌}
use Rattle.std.specs.List.{list_all, onto_first}
use Rattle.std.specs.Option.{option_map_or}
use Rattle.std.proofs.lemmas.Bool.{and_parts, and_from, not-true, eq-eqb, eqb-true}
use Rattle.std.proofs.lemmas.List.Folds.{list_all-append}
use Rattle.text_lines.specs.Headline.Cuts.{split_once}
use Rattle.text_lines.specs.Headline.Lines.{lines_of}
use Rattle.text_lines.proofs.Cuts.{split_once-cons}

-- the parts of a text that was cut, or the whole of it
abbrev pub cut_parts : List ℕ → Option (List ℕ × List ℕ) → List ℕ × Option (List ℕ)
cut_parts text o = option_map_or (λ parts. (parts.0, Some parts.1)) o (text, None)

-- a byte that is not the separator
abbrev pub is_other : ℕ → ℕ → Bool
is_other separator b = not (b == separator)

-- a text without a separator, and then the separator and a rest
pub split_once-joined : (separator : ℕ) (text rest : List ℕ) → list_all (is_other separator) text ≡ true → split_once separator (text ++ separator ∷ rest) ≡ Some (text, rest)
split_once-joined separator [] rest h = rw (split_once-cons separator separator rest, eq-eqb separator separator refl) refl
split_once-joined separator (b ∷ text) rest h =
    let parts = and_parts (is_other separator b) (list_all (is_other separator) text) h in
    rw (split_once-cons separator b (text ++ separator ∷ rest), not-true (b == separator) parts.0)
    (ap (option_map {U = List ℕ × List ℕ} (λ p. (b ∷ p.0, p.1))) (split_once-joined separator text rest parts.1))

-- a text that was cut in two
abbrev pub Rejoins : ℕ → List ℕ → List ℕ × List ℕ → Type 0
Rejoins s text p = text ≡ p.0 ++ s ∷ p.1

back_step : (s b : ℕ) (bs : List ℕ) (p : List ℕ × List ℕ) (t : Bool) (o : Option (List ℕ × List ℕ)) → nat_eq b s ≡ t → ((q : List ℕ × List ℕ) → o ≡ Some q → Rejoins s bs q) →
    cond t (Some ([], bs)) (option_map {U = List ℕ × List ℕ} (λ q. (b ∷ q.0, q.1)) o) ≡ Some p → Rejoins s (b ∷ bs) p
back_step s b bs p true o e h is =
    let same : ([], bs) ≡ p = cc in
    ap (λ c. c ∷ bs) (eqb-true b s e) ∙ ap (λ (q : List ℕ × List ℕ). q.0 ++ s ∷ q.1) same
back_step s b bs p false None e h is = absurd cc
back_step s b bs p false (Some q) e h is =
    let same : (b ∷ q.0, q.1) ≡ p = cc in
    ap (λ t. b ∷ t) (h q refl) ∙ ap (λ (r : List ℕ × List ℕ). r.0 ++ s ∷ r.1) same

pub split_back : (s : ℕ) (text : List ℕ) (p : List ℕ × List ℕ) → split_once s text ≡ Some p → Rejoins s text p
split_back s [] p h = absurd cc
split_back s (b ∷ bs) p h = back_step s b bs p (nat_eq b s) (split_once s bs) refl (λ q e. split_back s bs q e) (sym (split_once-cons s b bs) ∙ h)

-- it has a byte more than its parts
pub cut_length : (s : ℕ) (text : List ℕ) (p : List ℕ × List ℕ) → split_once s text ≡ Some p → length p.0 + length p.1 + 1 ≡ length text
cut_length s text p h = let long = ap length (split_back s text p h) ∙ length-append p.0 (s ∷ p.1) in omega (arith, long)

-- a line, and then its end and a rest
pub lines_of-line : (line rest : List ℕ) → list_all (is_other 10) line ≡ true → lines_of (line ++ 10 ∷ rest) ≡ line ∷ lines_of rest
lines_of-line [] rest h = refl
lines_of-line (b ∷ line) rest h =
    let parts = and_parts (is_other 10 b) (list_all (is_other 10) line) h in
    rw (not-true (b == 10) parts.0) (ap (onto_first b) (lines_of-line line rest parts.1))

-- all of a narrower class are all of a wider one
pub all_wider : (p q : ℕ → Bool) → ((b : ℕ) → p b ≡ true → q b ≡ true) → (bs : List ℕ) → list_all p bs ≡ true → list_all q bs ≡ true
all_wider p q wider [] h = refl
all_wider p q wider (b ∷ bs) h =
    let parts = and_parts (p b) (list_all p bs) h in
    and_from (q b) (list_all q bs) (wider b parts.0) (all_wider p q wider bs parts.1)

pub all_joined : (p : ℕ → Bool) (xs ys : List ℕ) → list_all p xs ≡ true → list_all p ys ≡ true → list_all p (xs ++ ys) ≡ true
all_joined p xs ys h k = list_all-append p xs ys ∙ and_from (list_all p xs) (list_all p ys) h k

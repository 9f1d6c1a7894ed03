-- Covers grow, and go on through halves.
use Rattle.std.proofs.Common.{◌≡◌, ◌∷◌, ◌++◌, ℕ, List, [], Bool, true, false, ◌+◌, ◌<◌, ◌||◌, ap, refl, sym, ◌∙◌, arith, length, get_or, ◌≤◌, ◌≢◌, subst}
use Rattle.std.specs.List.{list_any}
use Rattle.std.proofs.lemmas.List.{length-append}
use Rattle.std.proofs.lemmas.List.Folds.{list_any_at, list_any-append}
use Rattle.ternary_words.specs.declared.word.Word.{Word}
use Rattle.ternary_words.specs.Entries.{matches}
use Rattle.word_cover.specs.Covers.{Covers, AreAmong}

only_one : (s : Bool) → s || false ≡ true → s ≡ true
only_one true h = refl
only_one false h = h

-- a word that one of the words holds
pub covered-by : (words : List Word) (w x : Word) (k : ℕ) → k < length words → x ≡ get_or words k x → Covers (x ∷ []) w → Covers words w
covered-by words w x k h e c header is m = list_any_at (matches header) words k x h (ap (matches header) (sym e) ∙ only_one (matches header x) (c header is m))

in_two : (P : Type 0) (s t : Bool) → s || (t || false) ≡ true → (s ≡ true → P) → (t ≡ true → P) → P
in_two P true t m f g = f refl
in_two P false true m f g = g refl
in_two P false false m f g = absurd (cc m)

pub among-more : (some words : List Word) (x : Word) (k : ℕ) → k < length words → x ≡ get_or words k x → AreAmong some words → AreAmong (some ++ x ∷ []) words
among-more some words x k h e among header m =
    in_two (list_any (matches header) words ≡ true) (list_any (matches header) some) (matches header x) (sym (list_any-append (matches header) some (x ∷ [])) ∙ m)
    (among header) (λ t. list_any_at (matches header) words k x h (ap (matches header) (sym e) ∙ t))

either : (P : Type 0) (s t : Bool) → s || t ≡ true → (s ≡ true → P) → (t ≡ true → P) → P
either P true t m f g = f refl
either P false t m f g = g m

at_front : (s t : Bool) → s ≡ true → s || t ≡ true
at_front s t h = ap (λ x. x || t) h

behind : (s t : Bool) → t ≡ true → s || t ≡ true
behind true t h = refl
behind false t h = h

-- the part falls into two, of which the others cover one
pub part-next : (words others : List Word) (w part inner outer : Word) → Covers (inner ∷ outer ∷ []) part → AreAmong others words → Covers others outer →
    Covers (part ∷ words) w → Covers (inner ∷ words) w
part-next words others w part inner outer halves among covers so header is m =
    let P = matches header inner || list_any (matches header) words ≡ true in
    let any = list_any (matches header) words in
    either P (matches header part) any (so header is m)
    (λ p. in_two P (matches header inner) (matches header outer) (halves header is p)
    (λ e. at_front (matches header inner) any e) (λ e. behind (matches header inner) any (among header (covers header is e))))
    (λ e. behind (matches header inner) any e)

-- the end: the part lies inside of one of the words
pub part-end : (words : List Word) (w part x : Word) (k : ℕ) → k < length words → x ≡ get_or words k x → Covers (x ∷ []) part → Covers (part ∷ words) w → Covers words w
part-end words w part x k h e inside so header is m =
    either (list_any (matches header) words ≡ true) (matches header part) (list_any (matches header) words) (so header is m)
    (λ p. covered-by words part x k h e inside header is p) (λ e. e)

-- of the first k words, without the one at the place
abbrev pub AreFew : List Word → List Word → ℕ → ℕ → Type 0
AreFew some words k place = (length some ≤ k) × (place < k → length some < k) × AreAmong some words

pub few-more : (some more words : List Word) (x : Word) (k place : ℕ) → k < length words → x ≡ get_or words k x → k ≢ place → more ≡ some ++ x ∷ [] → AreFew some words k place → AreFew more words (k + 1) place
few-more some more words x k place h e other is few =
    let len : length more ≡ length some + 1 = ap length is ∙ length-append some (x ∷ []) in
    (omega (arith, len, few.0), λ p. (let less : place < k = omega (arith, other, p) in omega (arith, len, few.1 less)), subst (λ (xs : List Word). AreAmong xs words) (sym is) (among-more some words x k h e few.2))

pub few-same : (some more words : List Word) (k place : ℕ) → more ≡ some → AreFew some words k place → AreFew more words (k + 1) place
few-same some more words k place is few =
    let len : length more ≡ length some = ap length is in
    (omega (arith, len, few.0), λ p. omega (arith, len, few.0), subst (λ (xs : List Word). AreAmong xs words) (sym is) few.2)

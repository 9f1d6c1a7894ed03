-- Tables of which entries were removed, by number and by name.
use Rattle.std.proofs.Common.{◌≡◌, ◌∷◌, ℕ, zero, suc, ◌≤◌, List, [], Bool, true, false, cond, length, map, ap, arith, refl, sym, ◌∙◌, Some}
use Rattle.std.specs.Prelude.{find, Option, option_and_then}
use Rattle.std.specs.List.{All, remove}
use Rattle.std.proofs.lemmas.List.{length-map}
use Rattle.std.proofs.lemmas.List.Elements.{All-nil, All-cons, All-head, All-tail}
use Rattle.field_boxes.specs.Alike.{IsTight}
use Rattle.field_boxes.specs.Names.{AreDistinct, name_at}
use Rattle.ternary_words.specs.declared.entry.Entry as code
use Rattle.ternary_words.specs.Limits.{AreNumbered}
use Rattle.ternary_words.specs.Headline.Table.{Entry, answer, entry_matches}
use Rattle.ternary_words.specs.Views.{entry_of, word_of}
use Rattle.ternary_words.specs.Headline.Word.{agrees, header_bits}
use Rattle.ternary_words.specs.Entries as numbers

answer_step : (names : List (List ℕ)) (t : Bool) (e : code.Entry) (o : Option Entry) (n : ℕ) → option_and_then (λ x. x.decision) o ≡ name_at names n →
    option_and_then (λ x. x.decision) (cond t (Some (entry_of names e)) o) ≡ name_at names (cond t e.decision n)
answer_step names true e o n h = refl
answer_step names false e o n h = h

-- what a table answers by name is the name of what it answers by number
pub answer_named : (names : List (List ℕ)) (es : List code.Entry) (header : List ℕ) → answer (map (entry_of names) es) header ≡ name_at names (numbers.answer es header)
answer_named names [] header = refl
answer_named names (e ∷ es) header =
    answer_step names (agrees (word_of e.word) (header_bits header)) e (find (entry_matches header) (map (entry_of names) es)) (numbers.answer es header) (answer_named names es header)

bounded_step : (count : ℕ) (t : Bool) (e : code.Entry) (n : ℕ) → e.decision ≤ count → n ≤ count → cond t e.decision n ≤ count
bounded_step count true e n h rest = h
bounded_step count false e n h rest = rest

-- the number that a table answers is one of its names', or 0
bounded : (count : ℕ) (es : List code.Entry) (header : List ℕ) → AreNumbered count es → numbers.answer es header ≤ count
bounded count [] header h = omega arith
bounded count (e ∷ es) header h =
    bounded_step count (agrees (word_of e.word) (header_bits header)) e (numbers.answer es header) (All-head (λ x. x.decision ≤ count) e es h)
    (bounded count es header (All-tail (λ x. x.decision ≤ count) e es h))

all_left : (P : code.Entry → Type 0) (xs : List code.Entry) (place : ℕ) → All P xs → All P (remove xs place)
all_left P [] zero all = All-nil P
all_left P [] (suc place) all = All-nil P
all_left P (x ∷ xs) zero all = All-tail P x xs all
all_left P (x ∷ xs) (suc place) all = All-cons P x (remove xs place) (All-head P x xs all) (all_left P xs place (All-tail P x xs all))

remove-map : (f : code.Entry → Entry) (xs : List code.Entry) (place : ℕ) → remove (map f xs) place ≡ map f (remove xs place)
remove-map f [] zero = refl
remove-map f [] (suc place) = refl
remove-map f (x ∷ xs) zero = refl
remove-map f (x ∷ xs) (suc place) = ap (λ es. f x ∷ es) (remove-map f xs place)

-- a table that is tight by number is tight by name
pub tight_named : (names : List (List ℕ)) (es : List code.Entry) → AreDistinct names → AreNumbered (length names) es → IsTight numbers.answer es → IsTight answer (map (entry_of names) es)
tight_named names es distinct numbered tight place less =
    let found = tight place (omega (arith, less, length-map es (entry_of names))) in
    let header = found.0 in (
      header,
      found.1,
      λ same. found.2
          (distinct (numbers.answer (remove es place) header) (numbers.answer es header)
          (bounded (length names) (remove es place) header (all_left (λ x. x.decision ≤ length names) es place numbered))
          (bounded (length names) es header numbered)
          (sym (answer_named names (remove es place) header) ∙ ap (λ ts. answer ts header) (sym (remove-map (entry_of names) es place)) ∙ same ∙ answer_named names es header)),
    )

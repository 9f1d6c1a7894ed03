-- The first entry that matches, by its place and by what it decides.
use Rattle.std.proofs.Common.{◌≡◌, ◌∷◌, ℕ, List, [], Bool, true, false, Option, Some, None, length, map, ap, refl, sym, ◌∙◌}
use Rattle.std.specs.Prelude.{cond, find, nat_lt, option_and_then, position, slice_get}
use Rattle.std.specs.List.{position_or_len}
use Rattle.std.proofs.lemmas.List.Folds.{find_at}
use Rattle.std.proofs.lemmas.Option.{slice_get_past}
use Rattle.std.proofs.lemmas.Bool.{ltb-false}
use Rattle.field_boxes.specs.Names.{name_at}
use Rattle.ternary_words.specs.declared.entry.Entry as code
use Rattle.ternary_words.specs.Headline.Word.{agrees, header_bits}
use Rattle.ternary_words.specs.Headline.Table.{Entry, answer, entry_matches}
use Rattle.ternary_words.specs.Views.{word_of, entry_of, first_match, decided_at}

place_step : {A B : Type 0} (g : A → Option B) (xs : List A) (k : ℕ) (t : Bool) → nat_lt k (length xs) ≡ t →
    option_and_then (λ i. option_and_then g (slice_get xs i)) (cond t (Some k) None) ≡ option_and_then g (slice_get xs k)
place_step g xs k true h = refl
place_step g xs k false h = ap (option_and_then g) (sym (slice_get_past xs k (ltb-false k (length xs) h)))

-- what stands at the first place is the first that passes
place_found : {A B : Type 0} (g : A → Option B) (p : A → Bool) (xs : List A) →
    option_and_then (λ i. option_and_then g (slice_get xs i)) (position p xs) ≡ option_and_then g (find p xs)
place_found g p xs = place_step g xs (position_or_len p xs) (nat_lt (position_or_len p xs) (length xs)) refl ∙ ap (option_and_then g) (sym (find_at p xs))

answer_step : (names : List (List ℕ)) (e : code.Entry) (t : Bool) (r : Option code.Entry) (s : Option Entry) →
    option_and_then (λ e. name_at names e.decision) r ≡ option_and_then (λ e. e.decision) s →
    option_and_then (λ e. name_at names e.decision) (cond t (Some e) r) ≡ option_and_then (λ e. e.decision) (cond t (Some (entry_of names e)) s)
answer_step names e true r s h = refl
answer_step names e false r s h = h

found_answers : (names : List (List ℕ)) (values : List ℕ) (entries : List code.Entry) →
    option_and_then (λ e. name_at names e.decision) (find (λ e. agrees (word_of e.word) (header_bits values)) entries) ≡ answer (map (entry_of names) entries) values
found_answers names values [] = refl
found_answers names values (e ∷ es) =
    answer_step names e (agrees (word_of e.word) (header_bits values)) (find (λ e. agrees (word_of e.word) (header_bits values)) es) (find (entry_matches values) (map (entry_of names) es)) (found_answers names values es)

-- what the first place decides is the table's answer
pub first_answers : (names : List (List ℕ)) (values : List ℕ) (entries : List code.Entry) →
    decided_at names entries (first_match values entries) ≡ answer (map (entry_of names) entries) values
first_answers names values entries =
    place_found (λ (e : code.Entry). name_at names e.decision) (λ e. agrees (word_of e.word) (header_bits values)) entries ∙ found_answers names values entries

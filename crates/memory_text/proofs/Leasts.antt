-- How many slots two tables need depends on their words alone.
use Rattle.std.proofs.Common.{◌≡◌, ◌∷◌, ℕ, suc, min, Bool, true, false, ◌&&◌, if◌then◌else◌, List, [], Some, None, map, refl, ap, sym, ◌∙◌}
use Rattle.std.proofs.lemmas.Bool.{and_from, and_parts}
use Rattle.std.proofs.lemmas.List.{length-map}
use Rattle.ternary_words.specs.Headline.Word.{Trit}
use Rattle.ternary_words.specs.Headline.Table as words
use Rattle.ternary_words.specs.Views.{entry_of, word_of}
use Rattle.ternary_words.specs.declared.entry.Entry.{Entry}
use Rattle.slot_patch.specs.Least.{least_slots, same_word, slots_with}
use Rattle.slot_patch.proofs.Telling.{tells as tells_words}
use Rattle.memory_text.specs.Patching.{is_same_trit, is_same_word, slots_for}

module _ {A B : Type 0} (f : A → B) (same : A → A → Bool) (other : B → B → Bool) (alike : (a b : A) → same a b ≡ other (f a) (f b)) where
  with_one : (a : A) (rest : List A → ℕ) (others : List B → ℕ) → ((ys : List A) → others (map f ys) ≡ rest ys) → (ys : List A) → slots_with other (f a) others (map f ys) ≡ slots_with same a rest ys
  with_one a rest others h [] = ap suc (h [])
  with_one a rest others h (b ∷ ys) =
      cc (h (b ∷ ys), with_one a rest others h ys, h ys, alike a b)

  pub least_map : (xs ys : List A) → least_slots other (map f xs) (map f ys) ≡ least_slots same xs ys
  least_map [] ys = length-map ys f
  least_map (x ∷ xs) ys = with_one x (least_slots same xs) (least_slots other (map f xs)) (least_map xs) ys

trits_same : (a b : Trit) → is_same_trit a b ≡ true → a ≡ b
trits_same None None h = refl
trits_same (Some true) (Some true) h = refl
trits_same (Some false) (Some false) h = refl
trits_same a b h = absurd cc

trit_itself : (a : Trit) → is_same_trit a a ≡ true
trit_itself None = refl
trit_itself (Some true) = refl
trit_itself (Some false) = refl

words_same : (a b : List Trit) → is_same_word a b ≡ true → a ≡ b
words_same [] [] h = refl
words_same (x ∷ a) (y ∷ b) h =
    let parts = and_parts (is_same_trit x y) (is_same_word a b) h in
    ap (λ t. t ∷ a) (trits_same x y parts.0) ∙ ap (λ ts. y ∷ ts) (words_same a b parts.1)
words_same a b h = absurd cc

word_itself : (a : List Trit) → is_same_word a a ≡ true
word_itself [] = refl
word_itself (x ∷ a) = and_from (is_same_trit x x) (is_same_word a a) (trit_itself x) (word_itself a)

same_tests : (a b : Bool) → (a ≡ true → b ≡ true) → (b ≡ true → a ≡ true) → a ≡ b
same_tests true b f g = sym (f refl)
same_tests false true f g = g refl
same_tests false false f g = refl

tells : (names : List (List ℕ)) (a b : Entry) → same_word a b ≡ is_same_word (entry_of names a).word (entry_of names b).word
tells names a b =
    let u = word_of a.word in
    let v = word_of b.word in
    same_tests (same_word a b) (is_same_word u v)
    (λ h. ap (λ w. is_same_word u w) (sym ((tells_words a b).0 h)) ∙ word_itself u)
    (λ h. (tells_words a b).1 (words_same u v h))

-- by name as many slots are needed
pub least_named : (names : List (List ℕ)) (old new : List Entry) → slots_for (map (entry_of names) old) (map (entry_of names) new) ≡ least_slots same_word old new
least_named names old new = least_map (entry_of names) same_word (λ (a : words.Entry) (b : words.Entry). is_same_word a.word b.word) (tells names) old new

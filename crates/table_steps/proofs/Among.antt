-- Words that are pushed behind others.
use Rattle.std.proofs.Common.{◌≡◌, ◌∷◌, ◌++◌, ℕ, List, [], false, ◌+◌, ◌<◌, ap, refl, sym, subst, ◌∙◌, length, get_or, take, append_assoc}
use Rattle.std.specs.List.{list_any}
use Rattle.std.proofs.lemmas.List.{take_more, map-append}
use Rattle.std.proofs.lemmas.List.Folds.{list_any-append}
use Rattle.ternary_words.specs.declared.word.Word.{Word}
use Rattle.ternary_words.specs.declared.entry.Entry.{Entry}
use Rattle.ternary_words.specs.Entries.{matches}
use Rattle.word_cover.specs.Covers.{AreAmong}
use Rattle.table_steps.specs.Free.{words_of}
use Rattle.table_steps.proofs.Outcomes.{in_either, none_both, not_both, unless}

among-then : (xs ys zs more : List Word) → AreAmong xs ys → AreAmong zs (xs ++ more) → AreAmong zs (ys ++ more)
among-then xs ys zs more f g h t =
    list_any-append (matches h) ys more ∙ in_either (list_any (matches h) xs) (list_any (matches h) more) (list_any (matches h) ys) (f h) (sym (list_any-append (matches h) xs more) ∙ g h t)

-- one word more
pub among-next : (above old new items : List Word) (x : Word) (k : ℕ) → k < length items → x ≡ get_or items k x → AreAmong new (above ++ x ∷ []) →
    AreAmong above (old ++ take k items) → AreAmong new (old ++ take (k + 1) items)
among-next above old new items x k less here next so =
    subst (λ (ys : List Word). AreAmong new ys)
    (append_assoc old (take k items) (x ∷ []) ∙ ap (λ (ys : List Word). old ++ ys) (sym (take_more items k x less ∙ ap (λ y. take k items ++ y ∷ []) (sym here))))
    (among-then above (old ++ take k items) new (x ∷ []) so next)

-- the first entries' words, one more
pub words_more : (entries : List Entry) (e : Entry) (k : ℕ) → k < length entries → e ≡ get_or entries k e → words_of (take (k + 1) entries) ≡ words_of (take k entries) ++ e.word ∷ []
words_more entries e k less is =
    ap words_of (take_more entries k e less ∙ ap (λ x. take k entries ++ x ∷ []) (sym is)) ∙ map-append (λ x. x.word) (take k entries) (e ∷ [])

-- one entry more
pub among-next_entry : (above old new : List Word) (entries : List Entry) (e : Entry) (k : ℕ) → k < length entries → e ≡ get_or entries k e → AreAmong new (above ++ e.word ∷ []) →
    AreAmong above (old ++ words_of (take k entries)) → AreAmong new (old ++ words_of (take (k + 1) entries))
among-next_entry above old new entries e k less here next so =
    subst (λ (ys : List Word). AreAmong new ys)
    (append_assoc old (words_of (take k entries)) (e.word ∷ []) ∙ ap (λ (ys : List Word). old ++ ys) (sym (words_more entries e k less here)))
    (among-then above (old ++ words_of (take k entries)) new (e.word ∷ []) so next)

-- what no word matches
pub none_among : (h : List ℕ) (some words : List Word) → AreAmong some words → list_any (matches h) words ≡ false → list_any (matches h) some ≡ false
none_among h some words among none = unless (list_any (matches h) some) (λ t. not_both (list_any (matches h) words) (among h t) none)

pub none_in_both : (h : List ℕ) (xs ys : List Word) → list_any (matches h) xs ≡ false → list_any (matches h) ys ≡ false → list_any (matches h) (xs ++ ys) ≡ false
none_in_both h xs ys e f = list_any-append (matches h) xs ys ∙ none_both (list_any (matches h) xs) (list_any (matches h) ys) e f

pub none_with : (h : List ℕ) (words : List Word) (x : Word) → list_any (matches h) words ≡ false → matches h x ≡ false → list_any (matches h) (words ++ x ∷ []) ≡ false
none_with h words x e f = none_in_both h words (x ∷ []) e (none_both (matches h x) false f refl)

-- The entries of words, with the number of their decision.
use Rattle.std.proofs.Common.{◌≡◌, ◌∷◌, ◌++◌, ℕ, ◌+◌, ◌<◌, [], length, take, get_or, ap, refl, sym, ◌∙◌, Option, Some, None}
use Rattle.std.proofs.lemmas.List.{take_more}
use Rattle.ternary_words.specs.declared.word.Word.{Word}
use Rattle.bit_merge.specs.Slots.{Slots, numbered_entries}

pub numbered-append : (decision : ℕ) (xs ys : Slots) → numbered_entries decision (xs ++ ys) ≡ numbered_entries decision xs ++ numbered_entries decision ys
numbered-append decision [] ys = refl
numbered-append decision (None ∷ xs) ys = numbered-append decision xs ys
numbered-append decision (Some w ∷ xs) ys = cc (numbered-append decision xs ys)

-- the next place
pub numbered-more : (decision : ℕ) (xs : Slots) (i : ℕ) (s : Option Word) → i < length xs → s ≡ get_or xs i s →
    numbered_entries decision (take i xs) ++ numbered_entries decision (s ∷ []) ≡ numbered_entries decision (take (i + 1) xs)
numbered-more decision xs i s h e =
    ap (λ t. numbered_entries decision (take i xs) ++ numbered_entries decision (t ∷ [])) e
    ∙ sym (numbered-append decision (take i xs) (get_or xs i s ∷ [])) ∙ ap (numbered_entries decision) (sym (take_more xs i s h))

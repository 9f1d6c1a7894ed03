-- Texts are parted again where they were joined.
use Rattle.std.proofs.Common.{◌≡◌, ◌∷◌, ◌++◌, ℕ, ◌<◌, List, Bool, true, false, [], ap, refl, ◌∙◌, arith, length, ◌&&◌, not}
use Rattle.std.specs.List.{list_all, onto_first}
use Rattle.std.proofs.lemmas.Bool.{and_parts, not-true}
use Rattle.text_lines.specs.Headline.Lines.{is_blank}
use Rattle.filter_reader.specs.Headline.Tokens.{tokens, is_mark, goes_on}

-- a byte of a word
abbrev pub is_plain : ℕ → Bool
is_plain b = not (is_blank b) && not (is_mark b)

joined : (b : ℕ) (text : List ℕ) → is_plain b ≡ true → goes_on text ≡ true → tokens (b ∷ text) ≡ onto_first b (tokens text)
joined b text h e =
    let parts = and_parts (not (is_blank b)) (not (is_mark b)) h in
    rw (not-true (is_blank b) parts.0, not-true (is_mark b) parts.1, e) refl

apart : (b : ℕ) (text : List ℕ) → is_plain b ≡ true → goes_on text ≡ false → tokens (b ∷ text) ≡ (b ∷ []) ∷ tokens text
apart b text h e =
    let parts = and_parts (not (is_blank b)) (not (is_mark b)) h in
    rw (not-true (is_blank b) parts.0, not-true (is_mark b) parts.1, e) refl

-- a word, and then what doesn't go on with it
pub tokens-word : (b : ℕ) (word rest : List ℕ) → list_all is_plain (b ∷ word) ≡ true → goes_on rest ≡ false → tokens (b ∷ word ++ rest) ≡ (b ∷ word) ∷ tokens rest
tokens-word b [] rest h e = apart b rest (and_parts (is_plain b) true h).0 e
tokens-word b (c ∷ word) rest h e =
    let parts = and_parts (is_plain b) (list_all is_plain (c ∷ word)) h in
    joined b (c ∷ word ++ rest) parts.0 (and_parts (is_plain c) (list_all is_plain word) parts.1).0 ∙ ap (onto_first b) (tokens-word c word rest parts.1 e)

-- any word
pub tokens-text : (word rest : List ℕ) → 0 < length word → list_all is_plain word ≡ true → goes_on rest ≡ false → tokens (word ++ rest) ≡ word ∷ tokens rest
tokens-text [] rest some h e = absurd (omega arith)
tokens-text (b ∷ word) rest some h e = tokens-word b word rest h e

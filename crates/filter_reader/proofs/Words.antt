-- Where the first token of a line ends.
use Rattle.std.proofs.Common.{◌≡◌, ◌∷◌, ℕ, ◌+◌, List, Bool, true, false, cond, [], ap, refl, take, drop, add-one, Some, None, position, Option, option_map, not, ◌||◌, ◌&&◌, MatchOption}
use Rattle.std.specs.List.{onto_first}
use Rattle.std.proofs.lemmas.Bool.{false≢true}
use Rattle.text_lines.specs.Headline.Lines.{is_blank}
use Rattle.text_lines.proofs.Positions.{position-cons}
use Rattle.filter_reader.specs.Headline.Tokens.{tokens, goes_on, is_mark}

-- what the place of the first byte that ends a word says of the tokens
abbrev pub EndsAt : List ℕ → Option ℕ → Type 0
EndsAt text o = MatchOption o (tokens text ≡ text ∷ []) (λ n. tokens text ≡ take n text ∷ tokens (drop n text))

abbrev pub end_of : List ℕ → Option ℕ
end_of text = position (λ b. is_blank b || is_mark b) text

-- a word goes on
longer : (b : ℕ) (text : List ℕ) (o : Option ℕ) → EndsAt text o → MatchOption (option_map (λ i. i + 1) o) (onto_first b (tokens text) ≡ (b ∷ text) ∷ []) (λ n. onto_first b (tokens text) ≡ take n (b ∷ text) ∷ tokens (drop n (b ∷ text)))
longer b text None h = ap (onto_first b) h
longer b text (Some n) h = rw (add-one n) (ap (onto_first b) h)

-- a word ends
last : (b c : ℕ) (text : List ℕ) (blank mark : Bool) → is_blank c ≡ blank → is_mark c ≡ mark → (not blank && not mark) ≡ false →
    MatchOption (option_map (λ i. i + 1) (cond (blank || mark) (Some 0) (option_map (λ i. i + 1) (end_of text)))) ((b ∷ []) ∷ tokens (c ∷ text) ≡ (b ∷ c ∷ text) ∷ []) (λ n. (b ∷ []) ∷ tokens (c ∷ text) ≡ take n (b ∷ c ∷ text) ∷ tokens (drop n (b ∷ c ∷ text)))
last b c text false false p q h = absurd (cc)
last b c text blank mark p q h = refl

-- a byte of a word in front of what it stands before
before_more : (b : ℕ) (text : List ℕ) (t : Bool) → goes_on text ≡ t → (t ≡ true → EndsAt text (end_of text)) →
    MatchOption (option_map (λ i. i + 1) (end_of text)) (cond t (onto_first b (tokens text)) ((b ∷ []) ∷ tokens text) ≡ (b ∷ text) ∷ []) (λ n. cond t (onto_first b (tokens text)) ((b ∷ []) ∷ tokens text) ≡ take n (b ∷ text) ∷ tokens (drop n (b ∷ text)))
before_more b text true e h = longer b text (end_of text) (h refl)
before_more b [] false e h = refl
before_more b (c ∷ text) false e h = rw (position-cons (λ d. is_blank d || is_mark d) c text) (last b c text (is_blank c) (is_mark c) refl refl e)

ends_step : (b : ℕ) (text : List ℕ) (blank mark : Bool) → is_blank b ≡ blank → is_mark b ≡ mark → (not blank && not mark) ≡ true →
    (goes_on text ≡ true → EndsAt text (end_of text)) → EndsAt (b ∷ text) (cond (blank || mark) (Some 0) (option_map (λ i. i + 1) (end_of text)))
ends_step b text true mark p q h more = absurd (false≢true h)
ends_step b text false true p q h more = absurd (false≢true h)
ends_step b text false false p q h more = rw (p, q) (before_more b text (goes_on text) refl more)

pub ends_at : (text : List ℕ) → goes_on text ≡ true → EndsAt text (end_of text)
ends_at [] h = absurd (false≢true h)
ends_at (b ∷ text) h = rw (position-cons (λ c. is_blank c || is_mark c) b text) (ends_step b text (is_blank b) (is_mark b) refl refl h (ends_at text))

-- Where the first column of a line begins and ends.
use Rattle.std.proofs.Common.{◌≡◌, ◌∷◌, ℕ, ◌+◌, List, Bool, true, false, cond, [], ap, refl, ◌∙◌, take, drop, add-one, Some, None}
use Rattle.std.specs.Prelude.{position, Option, option_map, not, MatchOption, IsTrue}
use Rattle.std.specs.List.{onto_first}
use Rattle.std.proofs.lemmas.Bool.{false≢true}
use Rattle.text_lines.specs.Headline.Lines.{is_blank}
use Rattle.text_lines.proofs.Positions.{position-cons}
use Rattle.text_lines.specs.Columns.{begins_column, columns, from_first}

-- what the place of the first byte that isn't blank says of the parts of a line, which leave out what is blank
module _ (parts : List ℕ → List (List ℕ)) where
  abbrev pub BeginsAt : List ℕ → Option ℕ → Type 0
  BeginsAt line o = MatchOption o (parts line ≡ []) (λ i. (parts line ≡ parts (drop i line)) × IsTrue (begins_column (drop i line)))

  module _ (none : parts [] ≡ []) (blank : (b : ℕ) (line : List ℕ) → is_blank b ≡ true → parts (b ∷ line) ≡ parts line) where
    begins_step : (b : ℕ) (line : List ℕ) (t : Bool) (o : Option ℕ) → is_blank b ≡ t → BeginsAt line o → BeginsAt (b ∷ line) (cond (not t) (Some 0) (option_map (λ i. i + 1) o))
    begins_step b line true None e h = blank b line e ∙ h
    begins_step b line true (Some i) e h = rw (blank b line e, add-one i) h
    begins_step b line false o e h = (refl, ap not e)

    pub begins_at : (line : List ℕ) → BeginsAt line (position (λ b. not (is_blank b)) line)
    begins_at [] = none
    begins_at (b ∷ line) = rw (position-cons (λ c. not (is_blank c)) b line) (begins_step b line (is_blank b) (position (λ c. not (is_blank c)) line) refl (begins_at line))

-- what the place of the first blank says of the columns
abbrev pub EndsAt : List ℕ → Option ℕ → Type 0
EndsAt text o = MatchOption o (columns text ≡ text ∷ []) (λ n. columns text ≡ take n text ∷ columns (drop n text))

-- a column goes on
longer : (b : ℕ) (text : List ℕ) (o : Option ℕ) → EndsAt text o → MatchOption (option_map (λ i. i + 1) o) (onto_first b (columns text) ≡ (b ∷ text) ∷ []) (λ n. onto_first b (columns text) ≡ take n (b ∷ text) ∷ columns (drop n (b ∷ text)))
longer b text None h = ap (onto_first b) h
longer b text (Some n) h = rw (add-one n) (ap (onto_first b) h)

-- a column ends before a blank
last : (b c : ℕ) (text : List ℕ) (blank : Bool) → is_blank c ≡ blank → not blank ≡ false →
    MatchOption (option_map (λ i. i + 1) (cond blank (Some 0) (option_map (λ i. i + 1) (position is_blank text)))) ((b ∷ []) ∷ columns (c ∷ text) ≡ (b ∷ c ∷ text) ∷ []) (λ n. (b ∷ []) ∷ columns (c ∷ text) ≡ take n (b ∷ c ∷ text) ∷ columns (drop n (b ∷ c ∷ text)))
last b c text true p h = refl
last b c text false p h = absurd (cc)

-- a byte of a column in front of what it stands before
before_more : (b : ℕ) (text : List ℕ) (t : Bool) → begins_column text ≡ t → (t ≡ true → EndsAt text (position is_blank text)) →
    MatchOption (option_map (λ i. i + 1) (position is_blank text)) (cond t (onto_first b (columns text)) ((b ∷ []) ∷ columns text) ≡ (b ∷ text) ∷ []) (λ n. cond t (onto_first b (columns text)) ((b ∷ []) ∷ columns text) ≡ take n (b ∷ text) ∷ columns (drop n (b ∷ text)))
before_more b text true e h = longer b text (position is_blank text) (h refl)
before_more b [] false e h = refl
before_more b (c ∷ text) false e h = rw (position-cons is_blank c text) (last b c text (is_blank c) refl e)

ends_step : (b : ℕ) (text : List ℕ) (blank : Bool) → is_blank b ≡ blank → not blank ≡ true →
    (begins_column text ≡ true → EndsAt text (position is_blank text)) → EndsAt (b ∷ text) (cond blank (Some 0) (option_map (λ i. i + 1) (position is_blank text)))
ends_step b text true p h more = absurd (false≢true h)
ends_step b text false p h more = rw p (before_more b text (begins_column text) refl more)

pub ends_at : (text : List ℕ) → begins_column text ≡ true → EndsAt text (position is_blank text)
ends_at [] h = absurd (false≢true h)
ends_at (b ∷ text) h = rw (position-cons is_blank b text) (ends_step b text (is_blank b) refl h (ends_at text))

-- what the first place at which a test passes says of the text from there on
abbrev pub StartsAt : (ℕ → Bool) → List ℕ → Option ℕ → Type 0
StartsAt test text o = MatchOption o (from_first test text ≡ []) (λ i. from_first test text ≡ drop i text)

starts_step : (test : ℕ → Bool) (b : ℕ) (text : List ℕ) (t : Bool) (o : Option ℕ) → test b ≡ t → StartsAt test text o → StartsAt test (b ∷ text) (cond t (Some 0) (option_map (λ i. i + 1) o))
starts_step test b text true o e h = rw e refl
starts_step test b text false None e h = rw e h
starts_step test b text false (Some i) e h = rw (e, add-one) h

pub starts_at : (test : ℕ → Bool) (text : List ℕ) → StartsAt test text (position test text)
starts_at test [] = refl
starts_at test (b ∷ text) = rw (position-cons test b text) (starts_step test b text (test b) (position test text) refl (starts_at test text))

-- Words that cover a word.
use Rattle.std.specs.Prelude.{◌≡◌, ℕ, true, false, List}
use Rattle.std.specs.List.{list_any}
use Rattle.field_boxes.specs.Headline.Fields.{IsHeader}
use Rattle.ternary_words.specs.declared.word.Word.{Word}
use Rattle.ternary_words.specs.Entries.{matches}

-- every header that the word matches is matched by one of the words
abbrev pub Covers : List Word → Word → Type 0
Covers words w = (header : List ℕ) → IsHeader header → matches header w ≡ true → list_any (matches header) words ≡ true

-- no header is matched by both
abbrev pub AreDisjoint : Word → Word → Type 0
AreDisjoint a b = (header : List ℕ) → IsHeader header → matches header a ≡ true → matches header b ≡ false

-- what both match is matched by the third
abbrev pub HoldsBoth : Word → Word → Word → Type 0
HoldsBoth a b both = (header : List ℕ) → IsHeader header → matches header a ≡ true → matches header b ≡ true → matches header both ≡ true

-- where some header is matched by both, what the third matches is matched by both
abbrev pub HoldsOnlyBoth : Word → Word → Word → Type 0
HoldsOnlyBoth a b both = (header : List ℕ) → IsHeader header → matches header a ≡ true → matches header b ≡ true →
    (other : List ℕ) → IsHeader other → matches other both ≡ true → (matches other a ≡ true) × (matches other b ≡ true)

-- what one of the first words matches, one of the others matches
abbrev pub AreAmong : List Word → List Word → Type 0
AreAmong some words = (header : List ℕ) → list_any (matches header) some ≡ true → list_any (matches header) words ≡ true

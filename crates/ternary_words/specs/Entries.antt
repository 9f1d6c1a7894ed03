-- What entries answer by number, and their parts.
use Rattle.std.specs.Prelude.{◌≡◌, ◌⊎◌, ℕ, Bool, cond, List, [], ◌∷◌, All}
use Rattle.ternary_words.specs.declared.word.Word.{Word}
use Rattle.ternary_words.specs.declared.entry.Entry.{Entry}
use Rattle.ternary_words.specs.Headline.Word.{agrees, header_bits}
use Rattle.ternary_words.specs.Prefixes.{IsPrefixInEach}
use Rattle.ternary_words.specs.Views.{word_of}

-- whether the word matches the header
abbrev pub matches : List ℕ → Word → Bool
matches header w = agrees (word_of w) (header_bits header)

-- whether the entry's word matches the header
abbrev pub entry_matches : List ℕ → Entry → Bool
entry_matches header e = agrees (word_of e.word) (header_bits header)

-- what the first entry that matches the header decides; 0, which is no decision, where none does
abbrev pub answer : List Entry → List ℕ → ℕ
answer [] header = 0
answer (e ∷ entries) header = cond (entry_matches header e) e.decision (answer entries header)

-- the first list is the second without some of its entries
abbrev pub IsPart : List Entry → List Entry → Type 0
IsPart xs [] = xs ≡ []
IsPart xs (y ∷ ys) = ((rest : List Entry) × (xs ≡ y ∷ rest) × IsPart rest ys) ⊎ IsPart xs ys

-- the entries' words are prefixes in each field
abbrev pub ArePrefixes : List Entry → Type 0
ArePrefixes entries = All (λ e. IsPrefixInEach (word_of e.word)) entries

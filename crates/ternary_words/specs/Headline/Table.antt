-- Tables of ternary words, and what they answer: the first entry that matches.
use Rattle.std.specs.Prelude.{ℕ, Bool, List, find, Option, option_and_then}
use Rattle.ternary_words.specs.Headline.Word.{Trit, agrees, header_bits}

-- an entry: its word, and the name that it decides, or none
pub record Entry : Type 0 where
  pub word : List Trit
  pub decision : Option (List ℕ)

-- the slot width, the number of entries before redundant ones were removed, and the entries
pub record Table : Type 0 where
  pub slot : ℕ
  pub composed : ℕ
  pub entries : List Entry

-- whether the entry's word matches the header
abbrev pub entry_matches : List ℕ → Entry → Bool
entry_matches values e = agrees e.word (header_bits values)

-- what the first matching entry decides
abbrev pub answer : List Entry → List ℕ → Option (List ℕ)
answer entries values = option_and_then (λ e. e.decision) (find (entry_matches values) entries)

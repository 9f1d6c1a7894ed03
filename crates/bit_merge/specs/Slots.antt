-- The words of a run at their places, of which some are empty.
use Rattle.std.specs.Prelude.{◌≡◌, ℕ, ◌<◌, ◌≤◌, List, [], ◌∷◌, Option, Some, None, slice_index_or, min, set}
use Rattle.ternary_words.specs.Headline.Table.{Entry}
use Rattle.ternary_words.specs.Views.{word_of}
use Rattle.ternary_words.specs.declared.word.Word.{Word}
use Rattle.ternary_words.specs.declared.entry.Entry as code_entry
use Rattle.bit_merge.specs.Merge.{CanJoin, IsMerged, join}

abbrev pub Slots : Type 0
Slots = List (Option Word)

-- the word at a place, if one stands there
abbrev pub at : Slots → ℕ → Option Word
at slots k = slice_index_or slots k None

-- the entries of these words, which all decide one thing
abbrev pub entries_of : Option (List ℕ) → Slots → List Entry
entries_of d [] = []
entries_of d (None ∷ slots) = entries_of d slots
entries_of d (Some w ∷ slots) = record { word = word_of w; decision = d } ∷ entries_of d slots

-- whatever the words decide, what the second ones merge to is what the first ones merge to
abbrev pub LeadTo : Slots → Slots → Type 0
LeadTo before now = (d : Option (List ℕ)) (out : List Entry) → IsMerged (entries_of d now) out → IsMerged (entries_of d before) out

-- a word at one of the first places can be joined with no other one
abbrev pub AreDone : Slots → ℕ → Type 0
AreDone slots count = (i j : ℕ) (a b : Word) → i < count → at slots i ≡ Some a → at slots j ≡ Some b → CanJoin (word_of a) (word_of b) → i ≡ j

-- the least place whose word is such a one, if there is one
abbrev pub IsLeast : Slots → (Word → Type 0) → Option ℕ → Type 0
IsLeast slots Fits None = (k : ℕ) (b : Word) → at slots k ≡ Some b → Fits b → ⊥
IsLeast slots Fits (Some place) = ((b : Word) × (at slots place ≡ Some b) × Fits b) × ((k : ℕ) (b : Word) → at slots k ≡ Some b → Fits b → place ≤ k)

-- a word that can be joined with this one
abbrev pub IsPartner : Word → Word → Type 0
IsPartner word b = CanJoin (word_of word) (word_of b)

-- the word with this mask and this value
abbrev pub IsWord : ℕ → ℕ → Word → Type 0
IsWord mask value b = (b.mask ≡ mask) × (b.value ≡ value)

-- no earlier place has the word of this one
abbrev pub IsFirstOfItsWord : Slots → ℕ → Type 0
IsFirstOfItsWord slots place = (k : ℕ) (a b : Word) → at slots place ≡ Some a → at slots k ≡ Some b → IsWord a.mask a.value b → place ≤ k

-- the entries of these words, with the number of their decision
abbrev pub numbered_entries : ℕ → Slots → List code_entry.Entry
numbered_entries decision [] = []
numbered_entries decision (None ∷ slots) = numbered_entries decision slots
numbered_entries decision (Some w ∷ slots) = record { word = w; decision = decision } ∷ numbered_entries decision slots

-- the lesser of two places, where there are two
abbrev pub lesser_of : Option ℕ → Option ℕ → Option ℕ
lesser_of None other = other
lesser_of (Some one) None = Some one
lesser_of (Some one) (Some other) = Some (min one other)

-- the word was joined with its least partner, which was taken from this place
pub record IsJoining (old new : Slots) (word joined : Word) (place : ℕ) : Type 0 where
  pub partner : Word
  pub here : at old place ≡ Some partner
  pub can : IsPartner word partner
  pub first : (k : ℕ) (b : Word) → at old k ≡ Some b → IsPartner word b → place ≤ k
  pub join : word_of joined ≡ join (word_of word) (word_of partner)
  pub taken : new ≡ set old place None

-- the word was joined with its least partner, or has none
abbrev pub IsJoined : Slots → Slots → Word → Option (Word × ℕ) → Type 0
IsJoined old new word None = IsLeast old (IsPartner word) None × (new ≡ old)
IsJoined old new word (Some (joined, place)) = IsJoining old new word joined place

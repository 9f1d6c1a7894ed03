-- Where words stand in a table.
use Rattle.std.specs.Prelude.{◌≡◌, ℕ, suc, ◌≤◌, ◌<◌, Bool, ◌&&◌, nat_eq, List, length, Option, Some, None, slice_get, slice_index_or}
use Rattle.std.specs.HashMap.{get}
use Rattle.ternary_words.specs.declared.word.Word.{Word}
use Rattle.ternary_words.specs.declared.entry.Entry.{Entry}
use Rattle.slot_patch.specs.declared.word_places.WordPlaces.{WordPlaces}

-- the words are one
abbrev pub same_word : Word → Word → Bool
same_word p q = nat_eq p.value q.value && nat_eq p.mask q.mask

-- the entry's word has this mask and this value
abbrev pub HasWord : ℕ → ℕ → Entry → Type 0
HasWord mask value e = (e.word.mask ≡ mask) × (e.word.value ≡ value)

-- no entry from one place on and before another has the word
abbrev pub NoneHas : List Entry → ℕ → ℕ → ℕ → ℕ → Type 0
NoneHas entries from to mask value = (k : ℕ) (e : Entry) → from ≤ k → k < to → slice_get entries k ≡ Some e → HasWord mask value e → ⊥

-- the place is the first one of the word from another on
pub record IsFirstFrom (entries : List Entry) (from mask value place : ℕ) : Type 0 where
  pub behind : from ≤ place
  pub entry : Entry
  pub at : slice_get entries place ≡ Some entry
  pub word : HasWord mask value entry
  pub before : NoneHas entries from place mask value

-- the first place of the word from this one on, if there is one
abbrev pub IsNext : List Entry → ℕ → ℕ → ℕ → Option ℕ → Type 0
IsNext entries from mask value None = NoneHas entries from (length entries) mask value
IsNext entries from mask value (Some place) = IsFirstFrom entries from mask value place

-- of the places from this one on, each word has its first one, and each place the next one of its word
pub record ArePlaces (entries : List Entry) (from : ℕ) (places : WordPlaces) : Type 0 where
  pub count : length places.next.items ≡ length entries
  pub heads : (word : Word) → IsNext entries from word.mask word.value (get same_word places.first word)
  pub links : (k : ℕ) (e : Entry) → from ≤ k → slice_get entries k ≡ Some e → IsNext entries (suc k) e.word.mask e.word.value (slice_index_or places.next.items k None)

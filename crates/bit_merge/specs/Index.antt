-- For each word the least place where it stands, and for each place the next one with the same word.
use Rattle.std.specs.Prelude.{◌≡◌, ℕ, suc, ◌≤◌, Bool, ◌&&◌, nat_eq, List, length, Option, Some, None, slice_index_or}
use Rattle.ternary_words.specs.declared.word.Word.{Word}
use Rattle.bit_merge.specs.Slots.{Slots, at, IsWord}

-- the words are one
abbrev pub same_word : Word → Word → Bool
same_word p q = nat_eq p.value q.value && nat_eq p.mask q.mask

-- the least place from this one on whose word is such a one, if there is one
abbrev pub IsLeastFrom : Slots → ℕ → (Word → Type 0) → Option ℕ → Type 0
IsLeastFrom slots from Fits None = (k : ℕ) (b : Word) → from ≤ k → at slots k ≡ Some b → Fits b → ⊥
IsLeastFrom slots from Fits (Some place) = (from ≤ place) × ((b : Word) × (at slots place ≡ Some b) × Fits b) × ((k : ℕ) (b : Word) → from ≤ k → at slots k ≡ Some b → Fits b → place ≤ k)

-- each word leads to its least place, and each place to the next one of the same word
pub record IsIndexed (slots : Slots) (least : Word → Option ℕ) (next : List (Option ℕ)) : Type 0 where
  pub count : length next ≡ length slots
  pub heads : (word : Word) → IsLeastFrom slots 0 (IsWord word.mask word.value) (least word)
  pub links : (k : ℕ) (w : Word) → at slots k ≡ Some w → IsLeastFrom slots (suc k) (IsWord w.mask w.value) (slice_index_or next k None)

-- Pairs by their places.
use Rattle.std.specs.Prelude.{◌≡◌, ℕ, ◌<◌, ◌≤◌, List, length, slice_index_or, set, ◌⊎◌, Option, remove}
use Rattle.ternary_words.specs.Headline.Table.{Entry}
use Rattle.bit_merge.specs.Merge.{CanJoin, Pair, joint}

-- what an entry decides
abbrev pub Decision : Type 0
Decision = Option (List ℕ)

-- two of a table and what stands around them
abbrev pub pair : List Entry → Entry → List Entry → Entry → List Entry → Pair
pair before x between y after = record { before = before; first = x; between = between; second = y; after = after }

-- the entries at two places, which can be joined, and all between decide one thing (d stands in past the last entry)
pub record ArePlaces (entries : List Entry) (d : Entry) (i j : ℕ) : Type 0 where
  pub less : i < j
  pub within : j < length entries
  pub one : (k : ℕ) → i < k → k ≤ j → (slice_index_or entries k d).decision ≡ (slice_index_or entries i d).decision
  pub joinable : CanJoin (slice_index_or entries i d).word (slice_index_or entries j d).word

-- of all such places those with the least first one and then the least second one
pub record AreFirstPlaces (entries : List Entry) (d : Entry) (i j : ℕ) : Type 0 where
  pub places : ArePlaces entries d i j
  pub least : (k l : ℕ) → ArePlaces entries d k l → (i < k) ⊎ ((i ≡ k) × (j ≤ l))

-- the join at the first place, and without the second entry
abbrev pub joined_at : List Entry → Entry → ℕ → ℕ → List Entry
joined_at entries d i j = remove (set entries i (joint (slice_index_or entries i d) (slice_index_or entries j d))) j

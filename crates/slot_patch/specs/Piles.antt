-- Piles of pairs: how many pairs can rise from a place on, and chains that do.
use Rattle.std.specs.Prelude.{◌≡◌, ℕ, zero, suc, ◌+◌, ◌-◌, ◌≤◌, ◌<◌, nat_lt, true, List, [], ◌∷◌, length, Option, Some, None, slice_get, slice_index, if◌then◌else◌, ⊤}
use Rattle.ternary_words.specs.declared.entry.Entry.{Entry}
use Rattle.slot_patch.specs.Least.{least_slots, same_word}
use Rattle.slot_patch.specs.Sharing.{AreShared}
use Rattle.slot_patch.specs.declared.pair.Pair.{Pair}
use Rattle.slot_patch.specs.declared.pair.Link.{Link}
use Rattle.slot_patch.specs.declared.piles.Piles.{Piles}

-- how many of the places are below a number
abbrev pub below : ℕ → List ℕ → ℕ
below n [] = 0
below n (p ∷ places) = if nat_lt p n then suc (below n places) else below n places

-- below each number there are at least as many as before
abbrev pub AreLowered : List ℕ → List ℕ → Type 0
AreLowered before now = (n : ℕ) → below n before ≤ below n now

-- up to a place there are more than there were below it
abbrev pub IsTaken : ℕ → List ℕ → List ℕ → Type 0
IsTaken place before now = below place before < below (suc place) now

-- a list with this item at a place, which is in the list or directly behind it
abbrev pub laid : {X : Type 0} → List X → ℕ → X → List X
laid [] k x = x ∷ []
laid (y ∷ ys) zero x = x ∷ ys
laid (y ∷ ys) (suc k) x = y ∷ laid ys k x

-- the link on top of the pile before this one
abbrev pub top_before : List ℕ → ℕ → Option ℕ
top_before tops zero = None
top_before tops (suc k) = Some (slice_index tops k)

-- the links lead from this one over these pairs
abbrev pub Follows : List Link → Option ℕ → List Pair → Type 0
Follows links None [] = ⊤
Follows links None (p ∷ pairs) = ⊥
Follows links (Some n) [] = ⊥
Follows links (Some n) (p ∷ pairs) = (behind : Option ℕ) × (slice_get links n ≡ Some (record { pair = p; behind = behind })) × Follows links behind pairs

-- from a link on there are so many pairs and one more that rise, in the old table from a place on and in the new one from the place
-- on behind which so many entries stand
pub record HasChain (old new : List Entry) (links : List Link) (from place link count : ℕ) : Type 0 where
  pub pairs : List Pair
  pub many : length pairs ≡ suc count
  pub leads : Follows links (Some link) pairs
  pub shared : AreShared old new from (length new - suc place) pairs

-- each pile has a chain of pairs from this old entry on
pub record AreStacked (old new : List Entry) (from : ℕ) (p : Piles) : Type 0 where
  pub long : length p.tops.items ≡ length p.places.items
  pub chains : (k : ℕ) → k < length p.places.items → HasChain old new p.links.items from (slice_index p.places.items k) (slice_index p.tops.items k) k

-- while the pairs of one old entry are laid: where the pile's place is below the limit, its chain begins behind that entry
pub record AreLaid (old new : List Entry) (from limit : ℕ) (p : Piles) : Type 0 where
  pub stacked : AreStacked old new from p
  pub behind : (k : ℕ) → k < length p.places.items → slice_index p.places.items k < limit →
      HasChain old new p.links.items (suc from) (slice_index p.places.items k) (slice_index p.tops.items k) k

-- for each end of the new table: both tables have a layout in so many slots at least as they have entries, less the piles below it
abbrev pub AreBounded : List Entry → List Entry → List ℕ → Type 0
AreBounded old [] places = length old ≤ least_slots same_word old [] + below 0 places
AreBounded old (b ∷ new) places = (length old + suc (length new) ≤ least_slots same_word old (b ∷ new) + below (suc (length new)) places) × AreBounded old new places

-- each entry of the new table that has the word of this one is taken
abbrev pub AreTaken : Entry → List Entry → List ℕ → List ℕ → Type 0
AreTaken a [] before now = ⊤
AreTaken a (b ∷ new) before now = (same_word a b ≡ true → IsTaken (length new) before now) × AreTaken a new before now

-- Which entries of two tables share a slot.
use Rattle.std.specs.Prelude.{◌≡◌, ℕ, zero, suc, ◌+◌, ◌≤◌, true, List, [], ◌∷◌, length, Some, slice_get}
use Rattle.ternary_words.specs.declared.entry.Entry.{Entry}
use Rattle.slot_patch.specs.Least.{same_word}
use Rattle.slot_patch.specs.declared.pair.Pair.{Pair}

-- the entries at these places have one word
pub record HaveOneWordAt (old new : List Entry) (i j : ℕ) : Type 0 where
  pub a : Entry
  pub b : Entry
  pub old_at : slice_get old i ≡ Some a
  pub new_at : slice_get new j ≡ Some b
  pub same : same_word a b ≡ true

-- a pair whose places are not before these
pub record IsPairFrom (old new : List Entry) (i j : ℕ) (p : Pair) : Type 0 where
  pub old_from : i ≤ p.old
  pub new_from : j ≤ p.new
  pub word : HaveOneWordAt old new p.old p.new

-- pairs from these places on, which rise in both tables
abbrev pub AreShared : List Entry → List Entry → ℕ → ℕ → List Pair → Type 0
AreShared old new i j [] = (i ≤ length old) × (j ≤ length new)
AreShared old new i j (p ∷ pairs) = IsPairFrom old new i j p × AreShared old new (suc p.old) (suc p.new) pairs

-- so many pairs in a row from these places on
abbrev pub run : ℕ → ℕ → ℕ → List Pair
run i j zero = []
run i j (suc count) = record { old = i; new = j } ∷ run (suc i) (suc j) count

-- the pair so many places further on in both tables
abbrev pub moved_on : ℕ → Pair → Pair
moved_on by p = record { old = by + p.old; new = by + p.new }

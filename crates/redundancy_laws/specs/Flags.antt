-- Entries with a flag each.
use Rattle.std.specs.Prelude.{◌≡◌, ℕ, Bool, cond, List, [], ◌∷◌, length, map}
use Rattle.ternary_words.specs.declared.entry.Entry.{Entry}
use Rattle.redundancy_laws.specs.Marks.{marked}
use Rattle.redundancy_laws.specs.Contexts.{IsRight, whole}
use Rattle.redundancy_laws.specs.Built.{row_at}

-- the flagged entries
abbrev pub with_flags : List Entry → List Bool → List Entry
with_flags [] flags = []
with_flags (e ∷ entries) [] = []
with_flags (e ∷ entries) (b ∷ flags) = cond b (e ∷ with_flags entries flags) (with_flags entries flags)

-- a flag for each entry, and what they keep is right for the table as a whole, read in the order
pub record AreRightFlags (order : List ℕ) (entries : List Entry) (flags : List Bool) : Type 0 where
  pub count : length flags ≡ length entries
  pub out : ℕ → List ℕ → ℕ
  pub right : IsRight order whole (marked (map (row_at order) entries) flags) out

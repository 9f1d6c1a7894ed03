-- One pass over a table from the last entry to the first.
use Rattle.std.specs.Prelude.{◌≡◌, ◌≢◌, ◌⊎◌, ℕ, false, true, List, [], ◌∷◌}
use Rattle.std.specs.List.{list_any}
use Rattle.field_boxes.specs.Headline.Fields.{IsHeader}
use Rattle.ternary_words.specs.declared.entry.Entry.{Entry}
use Rattle.ternary_words.specs.Entries.{answer, entry_matches}

-- the header meets the entry first, where the others stand before it
abbrev pub MeetsFirst : List Entry → Entry → List ℕ → Type 0
MeetsFirst before e header = IsHeader header × (list_any (entry_matches header) before ≡ false) × (entry_matches header e ≡ true)

-- some header meets the entry first, and what is kept after it answers something else
abbrev pub IsNeeded : List Entry → Entry → List Entry → Type 0
IsNeeded before e later = (header : List ℕ) × MeetsFirst before e header × (answer later header ≢ e.decision)

-- all headers that meet the entry first are answered as it decides by what is kept after it
abbrev pub IsRedundant : List Entry → Entry → List Entry → Type 0
IsRedundant before e later = (header : List ℕ) → MeetsFirst before e header → answer later header ≡ e.decision

-- what the pass keeps of some entries, where before holds the entries before these, the nearest first: an entry stays
-- where it is needed before what is kept of those after it, and goes where it is redundant
abbrev pub Keeps : List Entry → List Entry → List Entry → Type 0
Keeps before [] kept = kept ≡ []
Keeps before (e ∷ entries) kept = (later : List Entry) × Keeps (e ∷ before) entries later ×
    ((IsNeeded before e later × (kept ≡ e ∷ later)) ⊎ (IsRedundant before e later × (kept ≡ later)))

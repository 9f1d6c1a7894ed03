-- Entries that a table needs.
use Rattle.std.specs.Prelude.{◌≡◌, ◌≢◌, ℕ, true, false, List}
use Rattle.std.specs.List.{list_any, remove}
use Rattle.field_boxes.specs.Alike.{AreAlike}
use Rattle.field_boxes.specs.Headline.Fields.{IsHeader}
use Rattle.ternary_words.specs.declared.entry.Entry.{Entry}
use Rattle.ternary_words.specs.Entries.{answer, entry_matches}
use Rattle.table_steps.specs.declared.need.Need.{Need}
use Rattle.table_steps.specs.declared.need.Need.TheVariants.{Redundant, Needed, Unknown}

-- the header meets the entry first, and the later entries answer something else
pub record IsWanted (before : List Entry) (e : Entry) (later : List Entry) (header : List ℕ) : Type 0 where
  pub is : IsHeader header
  pub first : list_any (entry_matches header) before ≡ false
  pub met : entry_matches header e ≡ true
  pub unlike : answer later header ≢ e.decision

-- the table answers alike without the entry at the place, or the header is answered otherwise
abbrev pub IsNeed : List Entry → ℕ → Need → Type 0
IsNeed table place Redundant = AreAlike (answer (remove table place)) (answer table)
IsNeed table place (Needed header) = IsHeader header.values × (answer (remove table place) header.values ≢ answer table header.values)
IsNeed table place Unknown = Unit {0}

-- A layout of the first entries of two tables.
use Rattle.std.specs.Prelude.{◌≡◌, ℕ, ◌+◌, List, Option, Some, None, length, map, slice_get, take}
use Rattle.ternary_words.specs.declared.entry.Entry.{Entry}
use Rattle.slot_patch.specs.Banks.{ShareWords}
use Rattle.bank_update.specs.Standing.{bank_of, entries_in}
use Rattle.slot_patch.specs.Layouts.{IsLayout}
use Rattle.slot_patch.specs.Ordered.{places}
use Rattle.slot_patch.specs.declared.layout.Layout.{Layout}
use Rattle.slot_patch.specs.declared.spreading.Spread.{Spread}

-- the entry at a place, if there is one
abbrev pub entry_at : List Entry → Option ℕ → Option Entry
entry_at entries None = None
entry_at entries (Some place) = slice_get entries place

-- the entries at these places
abbrev pub entries_at : List Entry → List (Option ℕ) → List (Option Entry)
entries_at entries places = map (entry_at entries) places

-- the entries of both tables have slots in their order, by their places
abbrev pub IsLayoutOf : List Entry → List Entry → Layout → Type 0
IsLayoutOf old new l = IsLayout (length l.start.items) old new (entries_at old l.start.items) (entries_at new l.next.items)

-- so many of the first entries of both tables have slots in their order, and so many slots are shared; none is empty
pub record IsMerged (old new : List Entry) (i j shared : ℕ) (l : Layout) : Type 0 where
  pub long : length l.next.items ≡ length l.start.items
  pub old_entries : entries_in (entries_at old l.start.items) ≡ take i old
  pub new_entries : entries_in (entries_at new l.next.items) ≡ take j new
  pub words : ShareWords (bank_of (entries_at old l.start.items)) (bank_of (entries_at new l.next.items))
  pub count : length l.start.items + shared ≡ i + j

-- in these slots the entries of both have slots in their order, and those of the old ones are known
pub record IsSpread (old new : List Entry) (s : Spread) : Type 0 where
  pub start : List (Option Entry)
  pub long : length s.next.items ≡ length start
  pub old_entries : entries_in start ≡ old
  pub new_entries : entries_in s.next.items ≡ new
  pub words : ShareWords (bank_of start) (bank_of s.next.items)
  pub slots : places 0 start ≡ s.slots.items

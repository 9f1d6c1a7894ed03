-- What slots hold, told by the slots of the entries.
use Rattle.std.specs.Prelude.{◌≡◌, ℕ, Bool, false, nat_eq, List, Option, Some, None, slice_get, if◌then◌else◌}
use Rattle.ternary_words.specs.declared.entry.Entry.{Entry}
use Rattle.bank_update.specs.Standing.{entries_in}
use Rattle.slot_patch.specs.Ordered.{places}

-- the entries stand in these slots, and nothing in the others
abbrev pub StandIn : List (Option Entry) → List ℕ → List Entry → Type 0
StandIn held slots entries = (places 0 held ≡ slots) × (entries_in held ≡ entries)

-- whether that is this slot
abbrev pub is_slot : Option ℕ → ℕ → Bool
is_slot None slot = false
is_slot (Some n) slot = nat_eq n slot

-- what a slot holds before which so many entries stand
abbrev pub held_by : List ℕ → List Entry → ℕ → ℕ → Option Entry
held_by slots entries before slot = if is_slot (slice_get slots before) slot then slice_get entries before else None

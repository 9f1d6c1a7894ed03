-- A new table whole beside the old one: where its entries are to stand, the writes of the swap, and what begin answers and does.
use Rattle.std.specs.Prelude.{◌≡◌, ℕ, Bool, ◌+◌, ◌-◌, ◌==◌, List, [], length, map, replicate, Option, Some, None, Result, Ok, Err, if◌then◌else◌, nat_le}
use Rattle.std.specs.List.{range_with_len}
use Rattle.ternary_words.specs.declared.entry.Entry.{Entry}
use Rattle.bank_update.specs.Banks.{alone}
use Rattle.bank_update.specs.Machine.{State, Update, begun_by}
use Rattle.bank_update.specs.Plans.{Plan}
use Rattle.bank_update.specs.Standing.{Standing, entries_in, first_slot}
use Rattle.bank_update.specs.Writes.{IsBeside, Layout, erased, target, write_count, written}
use Rattle.bank_update.specs.declared.block.Placed.{Placed}
use Rattle.bank_update.specs.declared.refusal.BeginRefusal.{BeginRefusal}
use Rattle.bank_update.specs.declared.refusal.BeginRefusal.TheVariants.{Busy, NoRoom}
use Rattle.bank_update.specs.declared.write.Write.{Write}

-- a table whose entries stand side by side, from a slot on
abbrev pub block : ℕ → ℕ → List Entry → List (List ℕ) → Standing
block slots start entries names = record { slots = alone slots start entries; names = names }

-- no table is settled in so many slots, and no swap is pending
abbrev pub unsettled : ℕ → State
unsettled slots = record { settled = record { slots = replicate slots None; names = [] }; pending = None }

-- the slot from which on a table stands, 0 for a table of no entries
abbrev pub start_of : List (Option Entry) → ℕ
start_of slots = if length (entries_in slots) == 0 then 0 else first_slot slots

-- the slots above the settled table, at the lower numbers
abbrev pub free_above : Standing → ℕ
free_above old = start_of old.slots

-- the slots below the settled table, at the higher numbers
abbrev pub free_below : Standing → ℕ
free_below old = length old.slots - start_of old.slots - length (entries_in old.slots)

-- where so many entries begin: directly below the settled table, else directly above it
abbrev pub room_for : Standing → ℕ → Result ℕ BeginRefusal
room_for old wanted =
    if nat_le wanted (free_below old) then Ok (start_of old.slots + length (entries_in old.slots))
    else (if nat_le wanted (free_above old) then Ok (start_of old.slots - wanted) else Err (NoRoom (free_above old) (free_below old) wanted))

-- where they begin; it is busy while an update is pending
abbrev pub place_with : Option Update → Result ℕ BeginRefusal → Result ℕ BeginRefusal
place_with None room = room
place_with (Some u) room = Err Busy

-- where so many entries begin, or why a swap to them can't begin
abbrev pub place_for : State → ℕ → Result ℕ BeginRefusal
place_for s wanted = place_with s.pending (room_for s.settled wanted)

-- where the entries of both tables stand
abbrev pub layout : Standing → ℕ → List Entry → Layout Entry
layout old start entries = record { slots = length old.slots; a = start_of old.slots; old = entries_in old.slots; b = start; new = entries }

-- a write of the swap, counted from 0: the new entries are put in order, and then the old ones are cleared from the last to the first
abbrev pub write_at : Layout Entry → ℕ → Write
write_at l k = record { slot = target l k; before = erased l k; entry = written l k }

-- all writes of the swap
abbrev pub writes_of : Layout Entry → List Write
writes_of l = map (write_at l) (range_with_len 0 (write_count l))

-- the swap to a table whose entries are to stand from a slot on
abbrev pub whole : Standing → ℕ → List Entry → List (List ℕ) → Plan
whole old start entries names = record { writes = writes_of (layout old start entries); new = block (length old.slots) start entries names }

-- the entries stand side by side
abbrev pub IsTogether : List (Option Entry) → Type 0
IsTogether slots = slots ≡ alone (length slots) (start_of slots) (entries_in slots)

-- whether the new table is directly below the settled one, and not above it
abbrev pub is_below : Layout Entry → Bool
is_below l = l.b == l.a + length l.old

-- the entries would lie beside the settled ones, and inside the memory
abbrev pub IsRoomAt : Standing → ℕ → List Entry → Type 0
IsRoomAt old start entries = IsBeside (is_below (layout old start entries)) (layout old start entries)

-- this of a table
abbrev pub IsRoomFor : Standing → Placed → Type 0
IsRoomFor old p = IsRoomAt old p.start p.table.entries.items

-- how many writes a swap to so many entries has
abbrev pub total_with : State → ℕ → ℕ
total_with s wanted = length (entries_in s.settled.slots) + wanted

-- the total, or why the swap can't begin
abbrev pub total_at : State → ℕ → Result ℕ BeginRefusal → Result ℕ BeginRefusal
total_at s wanted (Ok start) = Ok (total_with s wanted)
total_at s wanted (Err refusal) = Err refusal

-- what begin answers to a table of so many entries
abbrev pub begin_answer : State → ℕ → Result ℕ BeginRefusal
begin_answer s wanted = total_at s wanted (place_for s wanted)

-- the state after begin, where this place was found
abbrev pub begun_at : State → List Entry → List (List ℕ) → Result ℕ BeginRefusal → State
begun_at s entries names (Ok start) = begun_by s (whole s.settled start entries names)
begun_at s entries names (Err refusal) = s

-- the state after begin
abbrev pub begun : State → List Entry → List (List ℕ) → State
begun s entries names = begun_at s entries names (place_for s (length entries))

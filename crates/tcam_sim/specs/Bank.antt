-- The slots of a bank, as its columns say them.
use Rattle.std.specs.Prelude.{ℕ, ◌+◌, ◌*◌, ◌^◌, ◌==◌, List, Option, Some, None, length, map, slice_index, if◌then◌else◌}
use Rattle.std.specs.List.{range_with_len}
use Rattle.field_boxes.specs.Headline.Bits.{bits}
use Rattle.ternary_words.specs.Word.{trits}
use Rattle.tcam_sim.specs.Slots.{Stored}
use Rattle.tcam_sim.specs.declared.halves.Halves.{Halves}
use Rattle.tcam_sim.specs.declared.bank.Bank.{Bank}

-- the number at a place
abbrev pub number_at : Halves → ℕ → ℕ
number_at halves k = slice_index halves.high.items k * 2 ^ 64 + slice_index halves.low.items k

-- the slot with this mask, value and decision, where it isn't vacant
abbrev pub slot_with : ℕ → ℕ → ℕ → ℕ → Option Stored
slot_with vacant mask value decision = if vacant == 0 then Some (record { word = trits (bits 104 mask) (bits 104 value); decision = decision }) else None

-- the slot with a number
abbrev pub slot_at : Bank → ℕ → Option Stored
slot_at bank k = slot_with (slice_index bank.vacant.items k) (number_at bank.masks k) (number_at bank.values k) (slice_index bank.decisions.items k)

-- all slots
abbrev pub slots_of : Bank → List (Option Stored)
slots_of bank = map (slot_at bank) (range_with_len 0 (length bank.decisions.items))

-- how many calls of `set` were made
abbrev pub sets_of : Bank → ℕ
sets_of bank = bank.sets

-- The write that a line spells.
use Rattle.std.specs.Prelude.{ℕ, Bool, List, [], Option, Some, None, Result, Ok, Err, codes, nat_le, unwrap_or, if◌then◌else◌}
use Rattle.std.specs.Str.{bytes_eq}
use Rattle.ternary_words.specs.Headline.Table.{Entry}
use Rattle.text_lines.specs.Headline.Cuts.{parts_at}
use Rattle.table_text.specs.declared.error.TableReason.{TableReason}
use Rattle.table_text.specs.declared.error.TableReason.TheVariants.{Decision}
use Rattle.table_text.specs.Lines.{Line}
use Rattle.table_text.specs.Reading.{columns_entry}
use Rattle.memory_text.specs.declared.error.SlotReason.{SlotReason}
use Rattle.memory_text.specs.declared.error.SlotReason.TheVariants.{OfTable, Slot, UnknownWrite}
use Rattle.memory_text.specs.declared.kind.TextKind.{TextKind}
use Rattle.memory_text.specs.declared.kind.TextKind.TheVariants as kinds
use Rattle.memory_text.specs.Heading.{slot_numbered}
use Rattle.memory_text.specs.Memory.{Write}

-- what stands in front of the first space, and what stands behind it: nothing where there is no space
abbrev pub first_word : List ℕ → List ℕ × List ℕ
first_word text = let parts = parts_at 32 text in (parts.0, unwrap_or parts.1 [])

-- a slot that isn't in front of this one
abbrev pub from_slot : ℕ → Option ℕ → Option ℕ
from_slot from None = None
from_slot from (Some slot) = if nat_le from slot then Some slot else None

-- the entry that a slot is made to hold
abbrev pub held_in : Option ℕ → Result Entry TableReason → Result Write SlotReason
held_in None entry = Err Slot
held_in (Some slot) (Err reason) = Err (OfTable reason)
held_in (Some slot) (Ok entry) = Ok (record { slot = slot; entry = Some entry })

-- the number of a slot, and an entry as in the second version of a table's text: the number is tried first
unfoldable pub entry_write : ℕ → ℕ → Bool → List ℕ → Result Write SlotReason
entry_write slots from ended text =
    let parts = first_word text in
    held_in (from_slot from (slot_numbered slots parts.0)) (columns_entry (record { text = parts.1; ended = ended }))

-- a slot that is made to hold nothing, and the end of the line behind its number
abbrev pub emptied : Bool → Option ℕ → Result Write SlotReason
emptied ended None = Err Slot
emptied ended (Some slot) = if ended then Ok (record { slot = slot; entry = None }) else Err (OfTable Decision)

-- `set`, a slot and an entry, or `clear` and a slot
unfoldable pub plan_write : ℕ → Bool → List ℕ → Result Write SlotReason
plan_write slots ended text =
    let parts = first_word text in
    if bytes_eq parts.0 (codes "set") then entry_write slots 0 ended parts.1
    else (if bytes_eq parts.0 (codes "clear") then emptied ended (slot_numbered slots parts.1) else Err UnknownWrite)

-- the write of a line, in a memory's text of a slot that isn't in front of this one
abbrev pub write_in : TextKind → ℕ → ℕ → Line → Result Write SlotReason
write_in kinds.Memory slots from line = entry_write slots from line.ended line.text
write_in kinds.Plan slots from line = plan_write slots line.ended line.text

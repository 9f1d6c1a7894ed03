-- What is wrong with a line of a memory or a plan, in words.
use Rattle.std.specs.Prelude.{ℕ, List, codes, Option, Some, None}
use Rattle.table_text.specs.Reasons as tables
use Rattle.memory_text.specs.declared.error.SlotReason.{SlotReason}
use Rattle.memory_text.specs.declared.error.SlotReason.TheVariants.{OfTable, Slot, UnknownWrite, Writes}

-- the reason in words, without the counts that may follow
abbrev pub reason_text : SlotReason → List ℕ
reason_text (OfTable reason) = tables.reason_text reason
reason_text Slot = codes "slot"
reason_text UnknownWrite = codes "unknown write"
reason_text (Writes stated found) = codes "count of writes differs"

-- how many lines are stated and how many were found, where that is the reason
abbrev pub counts_of : SlotReason → Option (ℕ × ℕ)
counts_of (OfTable reason) = tables.counts_of reason
counts_of Slot = None
counts_of UnknownWrite = None
counts_of (Writes stated found) = Some (stated, found)

use Rattle.std.proofs.Common.{take}
use Rattle.razor_base.proofs.Writing.{HasPut}
use Rattle.memory_text.specs.MemoryText.{slot_lines}
use Rattle.memory_text.specs.Views.{slots_of}
use Rattle.memory_text.proofs.writing.put_slots.Given as goal

abbrev pub invariant-loop-slot : goal.invariant-loop-slot
invariant-loop-slot g l = HasPut g.K.Sink.written g.K.Sink.faults l.initial.out l.out l.initial.pending l.pending (slot_lines 0 (slots_of l.names (take l.slot l.slots)))

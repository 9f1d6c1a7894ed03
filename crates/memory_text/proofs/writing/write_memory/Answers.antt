use Rattle.razor_base.proofs.Writing.{puts-more, puts-then, puts-unwritten, puts-written, writes-is}
use Rattle.memory_text.specs.MemoryText.{slot_lines}
use Rattle.memory_text.specs.Views.{slots_of}
use Rattle.memory_text.proofs.SlotLines.{whole_memory}
use Rattle.memory_text.proofs.writing.write_memory.Goals as goal

pub returns-in_err-put_first_line : goal.returns-in_err-put_first_line
returns-in_err-put_first_line g c =
    writes-is (puts-unwritten c.from_residual.ensures.0 c.new-pending.ensures (puts-more (slot_lines 0 (slots_of c.args.memory.now.names c.as_slice-slots.result.now)) c.in_err-put_first_line.ensures))
    (whole_memory c.args.memory.now c.as_slice-slots.result.now c.count_entries-count.result c.count_entries-count.ensures c.as_slice-slots.ensures.value)

pub returns-in_err-put_slots : goal.returns-in_err-put_slots
returns-in_err-put_slots g c =
    writes-is (puts-unwritten c.from_residual-in_err-put_slots.ensures.0 c.new-pending.ensures (puts-then c.in_ok-put_first_line.ensures c.in_err-put_slots.ensures))
    (whole_memory c.args.memory.now c.as_slice-slots.result.now c.count_entries-count.result c.count_entries-count.ensures c.as_slice-slots.ensures.value)

pub returns : goal.returns
returns g c =
    writes-is (puts-written c.new-pending.ensures (puts-then c.in_ok-put_first_line.ensures c.in_ok-put_slots.ensures) c.flush.ensures.whole)
    (whole_memory c.args.memory.now c.as_slice-slots.result.now c.count_entries-count.result c.count_entries-count.ensures c.as_slice-slots.ensures.value)

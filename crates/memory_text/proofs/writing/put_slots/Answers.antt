use Rattle.std.proofs.Common.{◌+◌, arith, drop, length, take}
use Rattle.razor_base.proofs.Writing.{puts-then, puts-more, puts-stop, puts-is}
use Rattle.memory_text.specs.MemoryText.{slot_lines}
use Rattle.memory_text.specs.Views.{slots_of}
use Rattle.memory_text.proofs.SlotLines.{lines_held, lines_rest}
use Rattle.memory_text.proofs.writing.put_slots.Goals as goal

pub returns-in_err-put_slot : goal.returns-in_err-put_slot
returns-in_err-put_slot g c =
    let names = c.args.names.now in
    let slots = c.args.slots.now in
    let k = c.loop-slot.slot in
    let next = puts-is (puts-then c.loop-slot.invariant c.in_err-put_slot.ensures) (lines_held names slots k c.index-slots-slot.result c.index-slots-slot.is (omega arith)) in
    puts-is (puts-stop c.from_residual.ensures.0 (puts-more (slot_lines (0 + length (slots_of names (take (k + 1) slots))) (slots_of names (drop (k + 1) slots))) next)) (lines_rest names slots (k + 1))

pub loop-slot-preserved : goal.loop-slot-preserved
loop-slot-preserved g c =
    puts-is (puts-then c.loop-slot.invariant c.in_ok-put_slot.ensures) (lines_held c.args.names.now c.args.slots.now c.loop-slot.slot c.index-slots-slot.result c.index-slots-slot.is (omega arith))

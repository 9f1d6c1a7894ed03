use Rattle.std.specs.List.{flat_map}
use Rattle.razor_base.proofs.Writing.{puts-more, puts-then, puts-unwritten, puts-written, writes-is}
use Rattle.memory_text.specs.MemoryText.{write_line}
use Rattle.memory_text.specs.Views.{writes_of}
use Rattle.memory_text.proofs.SlotLines.{whole_plan}
use Rattle.memory_text.proofs.writing.write_plan.Goals as goal

pub returns-in_err-put_first_line : goal.returns-in_err-put_first_line
returns-in_err-put_first_line g c =
    writes-is (puts-unwritten c.from_residual.ensures.0 c.new-pending.ensures (puts-more (flat_map write_line (writes_of c.args.plan.now.names c.as_slice-writes.result.now)) c.in_err-put_first_line.ensures))
    (whole_plan c.args.plan.now c.as_slice-writes.result.now c.as_slice-writes.ensures.value)

pub returns-in_err-put_writes : goal.returns-in_err-put_writes
returns-in_err-put_writes g c =
    writes-is (puts-unwritten c.from_residual-in_err-put_writes.ensures.0 c.new-pending.ensures (puts-then c.in_ok-put_first_line.ensures c.in_err-put_writes.ensures))
    (whole_plan c.args.plan.now c.as_slice-writes.result.now c.as_slice-writes.ensures.value)

pub returns : goal.returns
returns g c =
    writes-is (puts-written c.new-pending.ensures (puts-then c.in_ok-put_first_line.ensures c.in_ok-put_writes.ensures) c.flush.ensures.whole)
    (whole_plan c.args.plan.now c.as_slice-writes.result.now c.as_slice-writes.ensures.value)

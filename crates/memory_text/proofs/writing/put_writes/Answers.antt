use Rattle.std.proofs.Common.{arith}
use Rattle.razor_base.proofs.Writing.{puts-is, puts-next, puts-next_cut, puts-each, texts_map}
use Rattle.memory_text.specs.MemoryText.{write_line}
use Rattle.memory_text.specs.Views.{write_of}
use Rattle.memory_text.proofs.writing.put_writes.Goals as goal

pub returns-in_err-put_write : goal.returns-in_err-put_write
returns-in_err-put_write g c =
    let names = c.args.names.now in
    puts-is (puts-next_cut (λ p. write_line (write_of names p)) c.args.writes.now c.loop-write.write-index _ _ (omega arith) c.write-item.is c.from_residual.ensures.0 c.loop-write.invariant c.in_err-put_write.ensures)
    (texts_map write_line (write_of names) c.args.writes.now)

pub loop-write-preserved : goal.loop-write-preserved
loop-write-preserved g c =
    puts-next (λ p. write_line (write_of c.args.names.now p)) c.args.writes.now c.loop-write.write-index _ _ (omega arith) c.write-item.is c.loop-write.invariant c.in_ok-put_write.ensures

pub returns : goal.returns
returns g c =
    let names = c.args.names.now in
    puts-is (puts-each (λ p. write_line (write_of names p)) c.args.writes.now c.loop-write.write-index (omega arith) c.loop-write.invariant) (texts_map write_line (write_of names) c.args.writes.now)

use Rattle.std.proofs.Common.{take}
use Rattle.std.specs.List.{flat_map}
use Rattle.razor_base.proofs.Writing.{HasPut}
use Rattle.memory_text.specs.MemoryText.{write_line}
use Rattle.memory_text.specs.Views.{write_of}
use Rattle.memory_text.proofs.writing.put_writes.Given as goal

abbrev pub invariant-loop-write : goal.invariant-loop-write
invariant-loop-write g l = HasPut g.K.Sink.written g.K.Sink.faults l.initial.out l.out l.initial.pending l.pending (flat_map (λ p. write_line (write_of l.names p)) (take l.write-index l.writes))

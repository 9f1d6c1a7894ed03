use Rattle.std.proofs.Common.{◌≡◌}
use Rattle.std.specs.Io.KnownBytes.{Keeps}
use Rattle.razor_base.specs.Recorders.{recorded_reads}
use Rattle.razor_base.specs.Streams.{Interrupts}
use Rattle.razor_base.proofs.stream.read_some.Given as goal

abbrev pub invariant-loop : goal.invariant-loop
invariant-loop g l = record {
  noted : recorded_reads l.recorder ≡ recorded_reads l.initial.recorder;
  kept : Keeps (g.S.Source.left l.initial.source) (g.S.Source.left l.source);
  interrupted : Interrupts (g.S.Source.calls l.initial.source) (g.S.Source.calls l.source) l.counter;
}

use Rattle.std.proofs.Common.{◌≡◌, ◌≤◌, [], take}
use Rattle.razor_base.specs.Headline.Outcomes.{Extends}
use Rattle.razor_base.specs.Output.{Appends, AreTaken}
use Rattle.bank_update.specs.Driven.{HasRun}
use Rattle.bank_update.specs.Runs.{IsTriedRun}
use Rattle.bank_update.proofs.drive.drive_on.Given as goal

abbrev pub invariant-loop-command : goal.invariant-loop-command
invariant-loop-command g l = record {
  ran : HasRun (IsTriedRun l.tables l.initial.swapper.state l.swapper.state (g.V.Device.faults l.initial.swapper.device) (g.V.Device.faults l.swapper.device)
      (g.V.Device.tries l.initial.swapper.device) (g.V.Device.tries l.swapper.device))
      (Appends (g.K.Sink.written l.initial.out) (g.K.Sink.written l.out)) (take l.command-index l.script);
  nothing : l.pending ≡ [];
  counts : g.V.Device.faults l.initial.swapper.device ≤ g.V.Device.faults l.swapper.device;
  calm : g.K.Sink.faults l.out ≡ g.K.Sink.faults l.initial.out;
  writes : Extends (g.K.Sink.written l.initial.out) (g.K.Sink.written l.out) AreTaken;
}

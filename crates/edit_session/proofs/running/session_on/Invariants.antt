use Rattle.std.proofs.Common.{◌≡◌, ◌+◌, ◌≤◌, [], length, take}
use Rattle.razor_base.specs.Headline.Outcomes.{Extends}
use Rattle.razor_base.specs.Output.{Appends, AreTaken}
use Rattle.edit_session.specs.SessionEnds.{HasRunSession, adds_of}
use Rattle.edit_session.proofs.SessionDriving.{Led}
use Rattle.edit_session.proofs.running.session_on.Given as goal

abbrev pub invariant-loop-command : goal.invariant-loop-command
invariant-loop-command g l = record {
  ran : HasRunSession (Led l.initial.editor.session (g.V.Device.faults l.initial.editor.device) (g.V.Device.faults l.editor.device) (g.V.Device.tries l.initial.editor.device) (g.V.Device.tries l.editor.device))
      (Appends (g.K.Sink.written l.initial.out) (g.K.Sink.written l.out)) l.editor.session (take l.command-index l.session);
  names : length l.editor.session.list.names ≤ length l.initial.editor.session.list.names + adds_of (take l.command-index l.session);
  nothing : l.pending ≡ [];
  counts : g.V.Device.faults l.initial.editor.device ≤ g.V.Device.faults l.editor.device;
  calm : g.K.Sink.faults l.out ≡ g.K.Sink.faults l.initial.out;
  writes : Extends (g.K.Sink.written l.initial.out) (g.K.Sink.written l.out) AreTaken;
}

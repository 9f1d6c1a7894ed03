use Rattle.std.proofs.Common.{◌≡◌, ◌≢◌, ◌≤◌, ℕ, List, [], false}
use Rattle.razor_base.specs.Headline.Readings.{ended, given}
use Rattle.razor_base.specs.Texts.{MayHave, left_in}
use Rattle.razor_base.specs.Output.{AreTaken}
use Rattle.razor_base.specs.Turns.{ArePieces}
use Rattle.razor_base.specs.Headline.Outcomes.{Extends}
use Rattle.trace_run.specs.Trace.{has_feed}
use Rattle.trace_run.proofs.Standing.{ReadSoFar}
use Rattle.trace_run.proofs.running.put_answers.Given as goal

abbrev pub invariant-pieces : goal.invariant-pieces
invariant-pieces g l = record {
  tries : Extends (g.K.Sink.written l.initial.out) (g.K.Sink.written l.out) AreTaken;
  turn : Extends (g.D.Desk.reads l.initial.desk) (g.D.Desk.reads l.desk) (ArePieces l.name);
  stands : (text : List ℕ) → MayHave (given (g.D.Desk.reads l.desk) l.name) false text → ReadSoFar g.K.Sink.written g.K.Sink.faults l.initial.out l.out l.initial.pending l.pending l.names (g.V.Device.held l.device) 67108864 l.room
      (left_in text (given (g.D.Desk.reads l.initial.desk) l.name)) (left_in text (given (g.D.Desk.reads l.desk) l.name)) l.progress;
  calm : g.K.Sink.faults l.out ≡ g.K.Sink.faults l.initial.out;
  unfinished : has_feed l.progress.line.items ≡ false;
  none : l.pending ≡ [];
  others : (other : List ℕ) → other ≢ l.name → (given (g.D.Desk.reads l.desk) other ≡ given (g.D.Desk.reads l.initial.desk) other) × (ended (g.D.Desk.reads l.desk) other ≡ ended (g.D.Desk.reads l.initial.desk) other);
  counts : (other : List ℕ) → g.D.Desk.faults l.initial.desk other ≤ g.D.Desk.faults l.desk other;
  none_failed : (other : List ℕ) → g.D.Desk.faults l.desk other ≡ g.D.Desk.faults l.initial.desk other;
}

abbrev pub decreases-pieces : goal.decreases-pieces
decreases-pieces g l = l.room

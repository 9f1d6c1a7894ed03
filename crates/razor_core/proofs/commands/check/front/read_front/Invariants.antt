use Rattle.std.proofs.Common.{◌≡◌, ◌≢◌, ◌≤◌, ◌-◌, ◌++◌, ℕ, List, length, take}
use Rattle.razor_base.specs.Headline.Outcomes.{Extends}
use Rattle.razor_base.specs.Headline.Readings.{ended, given}
use Rattle.razor_base.specs.Turns.{ArePieces}
use Rattle.razor_core.proofs.commands.check.front.read_front.Given as goal

abbrev pub invariant-pieces : goal.invariant-pieces
invariant-pieces g l =
    let reads = g.D.Desk.reads in
    let faults = g.D.Desk.faults in
    record {
      turn : Extends (reads l.initial.desk) (reads l.desk) (ArePieces l.name);
      front : given (reads l.desk) l.name ≡ given (reads l.initial.desk) l.name ++ take l.read l.buffer;
      fits : l.read ≤ length l.buffer;
      same : length l.buffer ≡ length l.initial.buffer;
      others : (other : List ℕ) → other ≢ l.name → (given (reads l.desk) other ≡ given (reads l.initial.desk) other) × (ended (reads l.desk) other ≡ ended (reads l.initial.desk) other);
      counts : (other : List ℕ) → faults l.initial.desk other ≤ faults l.desk other;
      calm : (other : List ℕ) → faults l.desk other ≡ faults l.initial.desk other;
    }

abbrev pub decreases-pieces : goal.decreases-pieces
decreases-pieces g l = 6 - l.read

use Rattle.std.proofs.Common.{◌≡◌, ◌≢◌, ◌≤◌, ◌-◌, ◌++◌, ℕ, List, length}
use Rattle.razor_base.specs.Headline.Readings.{ended, given}
use Rattle.razor_base.specs.Turns.{ArePieces}
use Rattle.razor_base.specs.Headline.Outcomes.{Extends}
use Rattle.razor_base.proofs.read.read_all.Given as goal

abbrev pub invariant-pieces : goal.invariant-pieces
invariant-pieces g l = record {
  turn : Extends (g.D.Desk.reads l.initial.desk) (g.D.Desk.reads l.desk) (ArePieces l.name);
  moved : given (g.D.Desk.reads l.desk) l.name ≡ given (g.D.Desk.reads l.initial.desk) l.name ++ l.into.items;
  within : length l.into.items ≤ l.limit;
  others : (other : List ℕ) → other ≢ l.name → (given (g.D.Desk.reads l.desk) other ≡ given (g.D.Desk.reads l.initial.desk) other) × (ended (g.D.Desk.reads l.desk) other ≡ ended (g.D.Desk.reads l.initial.desk) other);
  counts : (other : List ℕ) → g.D.Desk.faults l.initial.desk other ≤ g.D.Desk.faults l.desk other;
  calm : (other : List ℕ) → g.D.Desk.faults l.desk other ≡ g.D.Desk.faults l.initial.desk other;
}

abbrev pub decreases-pieces : goal.decreases-pieces
decreases-pieces g l = l.limit - length l.into.items

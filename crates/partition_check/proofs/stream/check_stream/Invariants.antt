use Rattle.razor_base.specs.Turns.{ArePieces}
use Rattle.razor_base.specs.Headline.Outcomes.{Extends}
use Rattle.razor_base.specs.Headline.Readings.{ended, given}
use Rattle.std.proofs.Common.{◌≡◌, ◌≢◌, ◌≤◌, ◌+◌, ◌-◌, ◌++◌, ℕ, List, length, take, drop, false}
use Rattle.razor_base.specs.Texts.{MayHave, left_in}
use Rattle.partition_check.specs.Readers.{reading}
use Rattle.partition_check.proofs.NearLimit.{IsNear}
use Rattle.partition_check.proofs.Streaming.{IsRead}
use Rattle.partition_check.proofs.stream.check_stream.Given as goal

abbrev pub invariant-pieces : goal.invariant-pieces
invariant-pieces g l = record {
  turn : Extends (g.D.Desk.reads l.initial.desk) (g.D.Desk.reads l.desk) (ArePieces l.name);
  read : (text : List ℕ) → MayHave (given (g.D.Desk.reads l.desk) l.name) false text → IsRead l.fn.checker 268435456 (take l.read l.initial.buffer ++ left_in text (given (g.D.Desk.reads l.initial.desk) l.name)) (take l.count (drop l.kept l.buffer) ++ left_in text (given (g.D.Desk.reads l.desk) l.name)) l.room (take l.kept l.buffer) (reading l.reader);
  near : IsNear 268435456 (given (g.D.Desk.reads l.initial.desk) l.name) (given (g.D.Desk.reads l.desk) l.name) l.room l.count;
  few : l.kept ≤ 129;
  fits : l.kept + l.count ≤ length l.buffer;
  others : (other : List ℕ) → other ≢ l.name → (given (g.D.Desk.reads l.desk) other ≡ given (g.D.Desk.reads l.initial.desk) other) × (ended (g.D.Desk.reads l.desk) other ≡ ended (g.D.Desk.reads l.initial.desk) other);
  counts : (other : List ℕ) → g.D.Desk.faults l.initial.desk other ≤ g.D.Desk.faults l.desk other;
  calm : (other : List ℕ) → g.D.Desk.faults l.desk other ≡ g.D.Desk.faults l.initial.desk other;
}

abbrev pub decreases-pieces : goal.decreases-pieces
decreases-pieces g l = l.room + l.room + (1 - l.count)

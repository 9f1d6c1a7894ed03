use Rattle.std.proofs.Common.{◌≡◌, ◌≢◌, ◌≤◌, ◌+◌, ◌-◌, ◌++◌, ℕ, List, false, length, take}
use Rattle.razor_base.specs.Headline.Outcomes.{Extends}
use Rattle.razor_base.specs.Headline.Readings.{ended, given}
use Rattle.razor_base.specs.Texts.{MayHave, left_in}
use Rattle.razor_base.specs.Turns.{ArePieces}
use Rattle.agreement_check.specs.Standing.{IsSound}
use Rattle.agreement_check.proofs.Pieces.{IsRead}
use Rattle.agreement_check.proofs.stream.check_proof.Given as goal

abbrev pub invariant-pieces : goal.invariant-pieces
invariant-pieces g l =
    let reads = g.D.Desk.reads in
    let faults = g.D.Desk.faults in
    record {
      turn : Extends (reads l.initial.desk) (reads l.desk) (ArePieces l.name);
      read : (text : List ℕ) → MayHave (given (reads l.desk) l.name) false text →
          IsRead l.list l.table 268435456 (take l.read l.initial.buffer ++ left_in text (given (reads l.initial.desk) l.name)) (left_in text (given (reads l.initial.desk) l.name)) (left_in text (given (reads l.desk) l.name)) l.room (take l.count l.buffer) l.reader;
      fits : l.count ≤ length l.buffer;
      sound : IsSound l.reader.claims;
      due : l.reader.line.cover.due + l.room ≤ 268435456;
      others : (other : List ℕ) → other ≢ l.name → (given (reads l.desk) other ≡ given (reads l.initial.desk) other) × (ended (reads l.desk) other ≡ ended (reads l.initial.desk) other);
      counts : (other : List ℕ) → faults l.initial.desk other ≤ faults l.desk other;
      calm : (other : List ℕ) → faults l.desk other ≡ faults l.initial.desk other;
    }

abbrev pub decreases-pieces : goal.decreases-pieces
decreases-pieces g l = l.room + 1 - l.count

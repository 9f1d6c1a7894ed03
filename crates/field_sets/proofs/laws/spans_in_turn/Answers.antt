use Rattle.field_sets.proofs.Covering.{unplaced}
use Rattle.field_sets.proofs.InTurn.{joined, above, first, next}
use Rattle.field_sets.proofs.laws.spans_in_turn.Goals as goal

pub returns : goal.returns
returns c = record { joined = joined; below = unplaced; above = above; first = first; next = next }

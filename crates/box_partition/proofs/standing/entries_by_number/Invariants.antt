use Rattle.partition_check.specs.Claims.{entry_matches}
use Rattle.box_partition.specs.Standing.{own_number}
use Rattle.box_partition.proofs.InPlace.{StandBelow}
use Rattle.box_partition.proofs.standing.entries_by_number.Given as goal

abbrev pub invariant-loop-entry : goal.invariant-loop-entry
invariant-loop-entry l = StandBelow entry_matches own_number l.entries l.entry-index l.standing.items

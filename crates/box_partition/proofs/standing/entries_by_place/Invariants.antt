use Rattle.partition_check.specs.Claims.{entry_matches}
use Rattle.box_partition.specs.Standing.{counted}
use Rattle.box_partition.proofs.InPlace.{StandBelow}
use Rattle.box_partition.proofs.standing.entries_by_place.Given as goal

abbrev pub invariant-loop-place : goal.invariant-loop-place
invariant-loop-place l = StandBelow entry_matches counted l.entries l.place l.standing.items

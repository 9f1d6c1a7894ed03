use Rattle.partition_check.specs.Claims.{rule_matches}
use Rattle.box_partition.specs.Standing.{counted}
use Rattle.box_partition.proofs.InPlace.{StandBelow}
use Rattle.box_partition.proofs.standing.rules_by_place.Given as goal

abbrev pub invariant-loop-place : goal.invariant-loop-place
invariant-loop-place l = StandBelow rule_matches counted l.rules l.place l.standing.items

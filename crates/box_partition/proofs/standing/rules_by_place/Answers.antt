use Rattle.std.proofs.Common.{arith}
use Rattle.field_boxes.specs.Headline.Fields.{stated}
use Rattle.field_boxes.specs.Rules.{rule_of}
use Rattle.field_boxes.proofs.SameSets.{matches_by_sets}
use Rattle.partition_check.specs.Claims.{rule_matches}
use Rattle.box_partition.specs.Standing.{counted}
use Rattle.box_partition.proofs.InPlace.{stand-next, stand-all}
use Rattle.box_partition.proofs.standing.rules_by_place.Goals as goal

pub loop-place-preserved : goal.loop-place-preserved
loop-place-preserved c =
    stand-next rule_matches counted _ _ _ _ c.index-rules-place.result c.index-rules-place.result c.with_decision.result c.in_ok-put_rule.ensures c.index-rules-place.is
    (λ header is. matches_by_sets stated header (rule_of c.with_decision.result) (rule_of c.index-rules-place.result) c.with_decision.ensures.sets) c.with_decision.ensures.decision c.loop-place.invariant

pub returns : goal.returns
returns c = stand-all rule_matches counted _ _ _ (omega (arith, c.loop-place.auto.place-end, c.loop-place-test.false)) c.loop-place.invariant

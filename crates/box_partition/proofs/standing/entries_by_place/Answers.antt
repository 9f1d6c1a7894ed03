use Rattle.std.proofs.Common.{refl, arith}
use Rattle.partition_check.specs.Claims.{entry_matches}
use Rattle.box_partition.specs.Standing.{counted}
use Rattle.box_partition.proofs.InPlace.{stand-next, stand-all, prefix-there}
use Rattle.box_partition.proofs.standing.entries_by_place.Goals as goal

pub word_rule-requires : goal.word_rule-requires
word_rule-requires c =
    prefix-there c.args.entries.now c.args.entries.now c.loop-place.place c.index-entries-place.result c.requires.prefixes refl c.index-entries-place.is (omega (arith, c.loop-place-test.true))

pub loop-place-preserved : goal.loop-place-preserved
loop-place-preserved c =
    stand-next entry_matches counted _ _ _ _ c.index-entries-place.result c.index-entries-place.result c.word_rule.result c.in_ok-put_rule.ensures c.index-entries-place.is
    c.word_rule.ensures.matched c.word_rule.ensures.decision c.loop-place.invariant

pub returns : goal.returns
returns c = stand-all entry_matches counted _ _ _ (omega (arith, c.loop-place.auto.place-end, c.loop-place-test.false)) c.loop-place.invariant

use Rattle.std.proofs.Common.{refl, arith}
use Rattle.partition_check.specs.Claims.{entry_matches}
use Rattle.box_partition.specs.Standing.{own_number}
use Rattle.box_partition.proofs.InPlace.{stand-next, stand-all, prefix-there}
use Rattle.box_partition.proofs.standing.entries_by_number.Goals as goal

pub word_rule-requires : goal.word_rule-requires
word_rule-requires c =
    prefix-there c.args.entries.now c.args.entries.now c.loop-entry.entry-index c.entry-item.result c.requires refl c.entry-item.is (omega (arith, c.loop-entry-test.true))

pub loop-entry-preserved : goal.loop-entry-preserved
loop-entry-preserved c =
    stand-next entry_matches own_number _ _ _ _ c.entry-item.result c.entry-item.result c.word_rule.result c.in_ok-put_rule.ensures c.entry-item.is
    c.word_rule.ensures.matched c.word_rule.ensures.decision c.loop-entry.invariant

pub returns : goal.returns
returns c = stand-all entry_matches own_number _ _ _ (omega (arith, c.loop-entry.auto.entry-index-end, c.loop-entry-test.false)) c.loop-entry.invariant

use Rattle.std.proofs.Common.{drop}
use Rattle.slot_patch.specs.Merging.{IsMerged}
use Rattle.slot_patch.specs.Sharing.{AreShared}
use Rattle.slot_patch.proofs.merging.merged.Given as goal

abbrev pub invariant-loop-pair : goal.invariant-loop-pair
invariant-loop-pair l = record {
  shared : AreShared l.old l.new l.at.old l.at.new (drop l.pair-index l.pairs);
  merged : IsMerged l.old l.new l.at.old l.at.new l.pair-index l.layout;
}

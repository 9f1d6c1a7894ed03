use Rattle.std.proofs.Common.{◌≡◌, ◌++◌, map, take}
use Rattle.slot_patch.specs.Sharing.{moved_on}
use Rattle.slot_patch.proofs.ends.push_moved.Given as goal

abbrev pub invariant-loop-pair : goal.invariant-loop-pair
invariant-loop-pair l = l.pairs.items ≡ l.initial.pairs.items ++ map (moved_on l.by) (take l.pair-index l.more)

use Rattle.std.proofs.Common.{◌-◌, length}
use Rattle.bit_merge.proofs.Parts.{ArePartly}
use Rattle.bit_merge.proofs.runs.merge_runs.Given as goal

abbrev pub invariant-loop-start : goal.invariant-loop-start
invariant-loop-start l = ArePartly l.entries l.start l.merged.items

abbrev pub decreases-loop-start : goal.decreases-loop-start
decreases-loop-start l = length l.entries - l.start

use Rattle.std.proofs.Common.{◌≡◌, ◌++◌}
use Rattle.slot_patch.specs.Sharing.{run}
use Rattle.slot_patch.proofs.ends.push_run.Given as goal

abbrev pub invariant-loop-done : goal.invariant-loop-done
invariant-loop-done l = l.pairs.items ≡ l.initial.pairs.items ++ run l.first.old l.first.new l.done

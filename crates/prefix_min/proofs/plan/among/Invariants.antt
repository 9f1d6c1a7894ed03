use Rattle.std.proofs.Common.{◌≡◌, drop}
use Rattle.prefix_min.specs.Plan.{among}
use Rattle.prefix_min.proofs.plan.among.Given as goal

abbrev pub invariant-loop-other : goal.invariant-loop-other
invariant-loop-other l = among (drop l.other-index l.labels) l.label ≡ among l.labels l.label

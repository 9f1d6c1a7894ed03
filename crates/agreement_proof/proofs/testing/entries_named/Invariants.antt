use Rattle.std.proofs.Common.{◌≡◌, take}
use Rattle.agreement_check.specs.Covers.{entries_named}
use Rattle.agreement_proof.proofs.testing.entries_named.Given as goal

abbrev pub invariant-loop-step : goal.invariant-loop-step
invariant-loop-step l = l.reach ≡ entries_named (take l.step-index l.steps)

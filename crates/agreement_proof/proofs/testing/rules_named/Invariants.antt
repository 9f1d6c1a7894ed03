use Rattle.std.proofs.Common.{◌≡◌, take}
use Rattle.agreement_check.specs.Covers.{rules_named}
use Rattle.agreement_proof.proofs.testing.rules_named.Given as goal

abbrev pub invariant-loop-step : goal.invariant-loop-step
invariant-loop-step l = l.reach ≡ rules_named (take l.step-index l.steps)

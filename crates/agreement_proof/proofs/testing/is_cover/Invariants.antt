use Rattle.std.proofs.Common.{ℕ, ◌+◌, ◌≤◌, take}
use Rattle.agreement_check.specs.Covering.{StandsFor}
use Rattle.agreement_check.specs.Views.{claim_of, sides_in}
use Rattle.agreement_proof.proofs.testing.is_cover.Given as goal

abbrev pub invariant-loop-step : goal.invariant-loop-step
invariant-loop-step l = StandsFor (sides_in l.sides) (claim_of l.task) (take l.step-index l.steps) l.cover × (l.cover.due ≤ l.step-index + 1)

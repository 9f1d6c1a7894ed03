use Rattle.std.proofs.Common.{ℕ, ◌<◌, Contains}
use Rattle.agreement_check.proofs.join.places.Given as goal

abbrev pub invariant-loop-place : goal.invariant-loop-place
invariant-loop-place l = (k : ℕ) → k < l.place → Contains l.places.items k

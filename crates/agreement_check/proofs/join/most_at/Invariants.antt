use Rattle.std.proofs.Common.{◌≤◌, slice_index}
use Rattle.std.specs.List.{AllWithin}
use Rattle.agreement_check.proofs.join.most_at.Given as goal

abbrev pub invariant-loop-place : goal.invariant-loop-place
invariant-loop-place l = AllWithin (λ k. slice_index l.numbers k ≤ l.most) l.places 0 l.place-index

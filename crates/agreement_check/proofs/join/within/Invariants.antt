use Rattle.std.proofs.Common.{◌<◌, Contains, slice_index}
use Rattle.std.specs.List.{AllWithin}
use Rattle.agreement_check.proofs.join.within.Given as goal

abbrev pub invariant-loop-place : goal.invariant-loop-place
invariant-loop-place l = AllWithin (λ k. (k < l.limit) × (l.least < slice_index l.numbers k) → Contains l.some.items k) l.places 0 l.place-index

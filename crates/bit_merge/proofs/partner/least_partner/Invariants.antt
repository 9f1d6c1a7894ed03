use Rattle.bit_merge.specs.Near.{IsNear}
use Rattle.bit_merge.specs.Slots.{IsLeast}
use Rattle.bit_merge.proofs.partner.least_partner.Given as goal

abbrev pub invariant-loop-bit : goal.invariant-loop-bit
invariant-loop-bit l = IsLeast l.places (λ b. IsNear l.bit l.word.mask l.word.value b.mask b.value) l.found

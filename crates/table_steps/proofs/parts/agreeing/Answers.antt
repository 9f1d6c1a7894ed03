use Rattle.std.proofs.Common.{ap, ◌∙◌, bit_and}
use Rattle.std.specs.Int.Bits.{and_self}
use Rattle.std.proofs.lemmas.Nat.{and_assoc}
use Rattle.table_steps.proofs.parts.agreeing.Goals as goal

pub invariant_of-result-clause-masked : goal.invariant_of-result-clause-masked
invariant_of-result-clause-masked c = and_assoc _ _ _ ∙ ap (bit_and _) (and_self _)

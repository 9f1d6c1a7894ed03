use Rattle.field_sets.specs.Unions.{united}
use Rattle.field_sets.proofs.sets.Sets.new.Goals as goal

pub invariant_of-result : goal.invariant_of-result
invariant_of-result c = c.new-2.ensures united c.new.result

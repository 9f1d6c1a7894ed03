use Rattle.fdd_apply.proofs.Stays.{results}
use Rattle.field_sets.specs.Unions.{united}
use Rattle.field_sets.proofs.sets.Sets.leaf.Goals as goal

pub invariant_of-self-2 : goal.invariant_of-self-2
invariant_of-self-2 c = results united c.self.inside.store c.leaf.new.self c.self.inside.unions c.leaf.ensures.grows c.self.invariant

pub invariant_of-self : goal.invariant_of-self
invariant_of-self c = results united c.self.inside.store c.leaf.new.self c.self.inside.unions c.leaf.ensures.grows c.self.invariant

use Rattle.fdd_apply.proofs.Stays.{results}
use Rattle.field_sets.specs.Unions.{united}
use Rattle.field_sets.proofs.sets.Sets.full.Goals as goal

pub invariant_of-self : goal.invariant_of-self
invariant_of-self c = results united c.self.inside.store c.answering.new.store c.self.inside.unions c.answering.ensures.grows c.self.invariant

pub invariant_of-self-2 : goal.invariant_of-self-2
invariant_of-self-2 c = results united c.self.inside.store c.answering.new.store c.self.inside.unions c.answering.ensures.grows c.self.invariant

use Rattle.ternary_words.proofs.Fives.{below_fields, field_parts}
use Rattle.ternary_words.proofs.keys.values_of.Goals as goal

pub returns-clause-parts : goal.returns-clause-parts
returns-clause-parts c = field_parts c.args.key _ _ _ _ _ c.part.ensures.part c.part-2.ensures.part c.part-3.ensures.part c.part-4.ensures.part c.part-5.ensures.part

pub returns-clause-small : goal.returns-clause-small
returns-clause-small c = below_fields _ _ _ _ _ c.part.ensures.small c.part-2.ensures.small c.part-3.ensures.small c.part-4.ensures.small c.part-5.ensures.small

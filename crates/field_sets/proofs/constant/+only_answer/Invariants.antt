use Rattle.field_sets.proofs.constant.+only_answer.Given as goal

abbrev pub decreases-only_answer : goal.decreases-only_answer
decreases-only_answer l = l.id.0

use Rattle.redundancy.proofs.Removals.{removal_later, removal_learnt}
use Rattle.redundancy.proofs.laws.removal_lasts.Goals as goal

pub returns-clause-learnt : goal.returns-clause-learnt
returns-clause-learnt c = λ nodes old new r keeps h. removal_learnt nodes old new r keeps h

pub returns-clause-grown : goal.returns-clause-grown
returns-clause-grown c = λ old new plans r grows are h. removal_later old new plans r grows are h

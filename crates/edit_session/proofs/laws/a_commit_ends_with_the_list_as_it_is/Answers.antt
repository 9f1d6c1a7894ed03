use Rattle.edit_session.proofs.Settling.{commit-decides, has-settled}
use Rattle.edit_session.proofs.laws.a_commit_ends_with_the_list_as_it_is.Goals as goal

pub returns-clause-ends : goal.returns-clause-ends
returns-clause-ends c = λ s t total h. has-settled s t total h

pub returns-clause-decides : goal.returns-clause-decides
returns-clause-decides c = λ s t total values h. commit-decides s t total values h

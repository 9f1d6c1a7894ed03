use Rattle.bank_update.proofs.Calm.{run-count, run-end, run-lines}
use Rattle.bank_update.proofs.laws.a_run_without_faults_is_the_session.Goals as goal

pub returns-clause-lines : goal.returns-clause-lines
returns-clause-lines c = λ tables start last events lines r. run-lines tables start last events lines r

pub returns-clause-state : goal.returns-clause-state
returns-clause-state c = λ tables start last events lines r. run-end tables start last events lines r

pub returns-clause-count : goal.returns-clause-count
returns-clause-count c = λ tables start last before after events lines r. run-count tables start last before after events lines r

use Rattle.bank_update.proofs.Ending.{settles, stays-pending}
use Rattle.bank_update.proofs.laws.an_update_ends_with_the_new_table.Goals as goal

pub returns-clause-settles : goal.returns-clause-settles
returns-clause-settles c = λ s u n pending back h. settles s u n pending back h

pub returns-clause-pending : goal.returns-clause-pending
returns-clause-pending c = λ s u n pending back h. stays-pending s u n pending back h

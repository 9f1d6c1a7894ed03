use Rattle.bank_update.proofs.Ending.{restores, goes-back-over}
use Rattle.bank_update.proofs.laws.an_update_that_goes_back_ends_with_the_old_table.Goals as goal

pub returns-clause-restores : goal.returns-clause-restores
returns-clause-restores c = λ s u pending back. restores s u pending back

pub returns-clause-over : goal.returns-clause-over
returns-clause-over c = λ s u pending back one. goes-back-over s u pending back one

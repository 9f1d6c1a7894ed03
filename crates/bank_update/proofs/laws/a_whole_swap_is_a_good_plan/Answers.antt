use Rattle.bank_update.proofs.WholeSwaps.{count-writes, held-whole, may-begin}
use Rattle.bank_update.proofs.laws.a_whole_swap_is_a_good_plan.Goals as goal

pub returns-clause-held : goal.returns-clause-held
returns-clause-held c = λ old start entries names d together small. held-whole old start entries names d together small

pub returns-clause-count : goal.returns-clause-count
returns-clause-count c = λ old start entries names. count-writes old start entries

pub returns-clause-good : goal.returns-clause-good
returns-clause-good c = λ old start entries names together room numbered named. may-begin old start entries names together room numbered named

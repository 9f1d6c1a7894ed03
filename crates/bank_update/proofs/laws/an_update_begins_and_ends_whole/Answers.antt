use Rattle.bank_update.proofs.Afterwards.{undoes}
use Rattle.bank_update.proofs.Blocks.{alone-empty}
use Rattle.bank_update.proofs.NextWrites.{underway}
use Rattle.bank_update.specs.Standing.{bank_of}
use Rattle.bank_update.proofs.laws.an_update_begins_and_ends_whole.Goals as goal

pub returns-clause-end : goal.returns-clause-end
returns-clause-end c = λ s u sound pending. (underway s u pending sound).plan.good.ends

pub returns-clause-undo : goal.returns-clause-undo
returns-clause-undo c = λ s u d w sound pending at. undoes (bank_of s.settled.slots) u.plan.writes d w (underway s u pending sound).plan.good.stood at

pub returns-clause-empty : goal.returns-clause-empty
returns-clause-empty c = λ slots from h. alone-empty slots from h

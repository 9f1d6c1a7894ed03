use Rattle.bank_update.proofs.Found.{look-least, look-stands, first-entry, first-place, first-within, look-alone}
use Rattle.bank_update.proofs.laws.a_look_up_finds_the_least_slot.Goals as goal

pub returns-clause-least : goal.returns-clause-least
returns-clause-least c = λ m bank. look-least m bank

pub returns-clause-stands : goal.returns-clause-stands
returns-clause-stands c = λ m bank k e h. look-stands m bank k e h

pub returns-clause-entry : goal.returns-clause-entry
returns-clause-entry c = λ m es from. first-entry m es from

pub returns-clause-place : goal.returns-clause-place
returns-clause-place c = λ m es from. first-place m es from

pub returns-clause-within : goal.returns-clause-within
returns-clause-within c = λ m es from k e h. first-within m es from (k, e) h

pub returns-clause-settled : goal.returns-clause-settled
returns-clause-settled c = λ m slots from es. look-alone m slots from es

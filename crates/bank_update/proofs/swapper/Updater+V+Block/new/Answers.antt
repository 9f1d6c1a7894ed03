use Rattle.std.proofs.Common.{◌∙◌, ℕ, [], None, length, replicate, ap, subst, sym}
use Rattle.ternary_words.specs.Limits.{AreNumbered}
use Rattle.bank_update.specs.Standing.{Standing, bank_of, entries_in}
use Rattle.bank_update.proofs.Standings.{bank-none, numbered-none}
use Rattle.bank_update.proofs.swapper.Updater+V+Block.new.Goals as goal

pub over-requires-clause-holds : goal.over-requires-clause-holds
over-requires-clause-holds g c =
    c.requires ∙ sym (bank-none (length (g.V.Device.held c.args.device))) ∙ ap (λ (n : ℕ). bank_of (replicate n None)) (sym c.slots-slots.ensures)
    ∙ ap (λ (s : Standing). bank_of s.slots) (sym c.none.ensures)

pub over-requires-clause-numbered : goal.over-requires-clause-numbered
over-requires-clause-numbered g c =
    subst (λ (s : Standing). AreNumbered (length s.names) (entries_in s.slots)) (sym c.none.ensures) (numbered-none [] c.slots-slots.result)

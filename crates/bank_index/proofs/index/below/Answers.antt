use Rattle.std.proofs.Common.{◌∙◌, ◌∷◌, ◌++◌, [], ap}
use Rattle.bank_index.proofs.Ranges.{number_more}
use Rattle.bank_index.proofs.index.below.Goals as goal

pub loop-slot-preserved : goal.loop-slot-preserved
loop-slot-preserved c = c.in_ok-push.ensures.items ∙ ap (λ xs. xs ++ c.loop-slot.slot ∷ []) c.loop-slot.invariant ∙ number_more c.loop-slot.slot

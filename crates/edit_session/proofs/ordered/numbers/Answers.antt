use Rattle.std.proofs.Common.{◌∷◌, ◌++◌, ◌∙◌, ℕ, List, [], ap, sym}
use Rattle.edit_session.proofs.Ordering.{range-more}
use Rattle.edit_session.proofs.ordered.numbers.Goals as goal

pub loop-number-preserved : goal.loop-number-preserved
loop-number-preserved c = c.in_ok-push.ensures.items ∙ ap (λ (ks : List ℕ). ks ++ c.loop-number.number ∷ []) c.loop-number.invariant ∙ sym (range-more c.loop-number.number)

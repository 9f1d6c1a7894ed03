use Rattle.std.proofs.Common.{◌≡◌, ◌∷◌, ◌++◌, take}
use Rattle.std.specs.List.{flat_map}
use Rattle.agreement_check.specs.Proofs.{word_text}
use Rattle.agreement_proof.proofs.lines.put_cover.Given as goal

abbrev pub invariant-loop-step : goal.invariant-loop-step
invariant-loop-step l = l.text.items ≡ l.initial.text.items ++ flat_map (λ step. 32 ∷ word_text step) (take l.step-index l.steps)

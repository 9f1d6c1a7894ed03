-- The words of a cover.
use Rattle.std.specs.Prelude.{ℕ, zero, suc, ◌-◌, nat_eq, Bool, true, false, List, [], ◌∷◌, Option, Some, None, option_map, drop, if◌then◌else◌}
use Rattle.std.specs.List.{starts_with}
use Rattle.std.specs.Str.{bytes_eq}
use Rattle.text_lines.specs.Headline.Steps.{◌>>=◌}
use Rattle.text_lines.specs.Numbers.{plain_number}
use Rattle.agreement_check.specs.declared.step.Step.{Step}
use Rattle.agreement_check.specs.declared.step.Step.TheVariants.{InRule, InEntry, Missed, Late, Halved}
use Rattle.agreement_check.specs.declared.step.Terms.{Terms}

-- the place, from 0, of the item whose number, from 1 up to their count, the text writes
unfoldable pub place_in : ℕ → List ℕ → Option ℕ
place_in count text = do
  number ← plain_number count text
  if nat_eq number 0 then None else Some (number - 1)

-- '-' and '>' where they may stand, 'r' and 'e' with a number, or a bit
unfoldable pub step_of : Terms → List ℕ → Option Step
step_of terms word =
    if bytes_eq word (45 ∷ []) then (if terms.missed then Some Missed else None)
    else (if bytes_eq word (62 ∷ []) then (if terms.late then Some Late else None)
    else (if starts_with nat_eq word (114 ∷ []) then option_map (λ place. InRule place) (place_in terms.rules (drop 1 word))
    else (if starts_with nat_eq word (101 ∷ []) then option_map (λ place. InEntry place) (place_in terms.entries (drop 1 word))
    else option_map (λ bit. Halved bit) (plain_number 103 word))))

-- the steps that the words spell
abbrev pub steps_of : Terms → List (List ℕ) → Option (List Step)
steps_of terms [] = Some []
steps_of terms (word ∷ words) = do
  step ← step_of terms word
  steps ← steps_of terms words
  Some (step ∷ steps)

-- whether the steps are so many covers, one behind the other: one that halves a cube is followed by those of its halves
abbrev pub are_covers : ℕ → List Step → Bool
are_covers zero [] = true
are_covers zero (step ∷ steps) = false
are_covers (suc n) [] = false
are_covers (suc n) (Halved bit ∷ steps) = are_covers (suc (suc n)) steps
are_covers (suc n) (step ∷ steps) = are_covers n steps

-- the steps of one cover
unfoldable pub cover_of : Terms → List (List ℕ) → Option (List Step)
cover_of terms words = do
  steps ← steps_of terms words
  if are_covers 1 steps then Some steps else None

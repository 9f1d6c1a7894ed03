-- Number words.
use Rattle.std.specs.Prelude.{ℕ, List, [], ◌∷◌, nat_le, Option, Some, None, if◌then◌else◌}
use Rattle.razor_limits.specs.declared.limits.TheConstants.{MOST_RULES}
use Rattle.text_lines.specs.Headline.Numbers.{short_number}
use Rattle.text_lines.specs.Headline.Steps.{◌>>=◌}

-- the number that the word writes in one to ten digits, leading zeros allowed, where it lies between these
unfoldable pub number_between : ℕ → ℕ → List ℕ → Option ℕ
number_between least greatest word = do
  number ← short_number 10 10 greatest word
  if nat_le least number then Some number else None

-- what is made of a seed and a number of rules
abbrev pub drawing : {C : Type 0} → (ℕ → ℕ → C) → List (List ℕ) → Option C
drawing make (seed ∷ rules ∷ []) = do
  seed ← number_between 0 2147483647 seed
  rules ← number_between 0 MOST_RULES rules
  Some (make seed rules)
drawing make words = None

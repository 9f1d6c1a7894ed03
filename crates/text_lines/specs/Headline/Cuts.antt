-- Cutting a text at a separator.
use Rattle.std.specs.Prelude.{ℕ, ◌+◌, ◌==◌, List, Option, Some, None, option_map, position, take, drop}
use Rattle.std.specs.Option.{option_map_or}

-- what stands before the first separator, and what stands after it
abbrev pub split_once : ℕ → List ℕ → Option (List ℕ × List ℕ)
split_once separator text = option_map (λ i. (take i text, drop (i + 1) text)) (position (λ b. b == separator) text)

-- what stands before the first separator, or the whole text, and what stands after it, if there is one
abbrev pub parts_at : ℕ → List ℕ → List ℕ × Option (List ℕ)
parts_at separator text = option_map_or (λ parts. (parts.0, Some parts.1)) (split_once separator text) (text, None)

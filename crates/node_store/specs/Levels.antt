-- Levels: the fields that are read from a node on, the node's own first. A leaf stands at the empty level.
use Rattle.std.specs.Prelude.{ℕ, ◌+◌, ◌<◌, ◌≤◌, List, [], ◌∷◌, length}
use Rattle.field_boxes.specs.Headline.Fields.{width}
use Rattle.field_boxes.specs.Fields.{greatest_of}

-- the bits of these fields together
abbrev pub bits_of : List ℕ → ℕ
bits_of [] = 0
bits_of (f ∷ level) = width f + bits_of level

-- each is one of the five fields, and they are at most five, with at most the bits of a header
abbrev pub IsLevel : List ℕ → Type 0
IsLevel [] = Unit {0}
IsLevel (f ∷ level) = ((f < 5) × (bits_of (f ∷ level) ≤ 104) × (length level < 5)) × IsLevel level

-- and one is left to read
abbrev pub HasField : List ℕ → Type 0
HasField [] = ⊥
HasField (f ∷ level) = ((f < 5) × (bits_of (f ∷ level) ≤ 104) × (length level < 5)) × IsLevel level

-- the level after the first field
abbrev pub next : List ℕ → List ℕ
next [] = []
next (f ∷ level) = level

-- the greatest value of the first field
abbrev pub top_of : List ℕ → ℕ
top_of [] = 0
top_of (f ∷ level) = greatest_of f

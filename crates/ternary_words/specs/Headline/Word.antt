-- Ternary words: 104 trits, and the headers that they match.
use Rattle.std.specs.Prelude.{ℕ, Bool, true, ◌&&◌, List, [], ◌∷◌, ◌++◌, Option}
use Rattle.std.specs.Bool.{beq}
use Rattle.std.specs.Option.{option_map_or}
use Rattle.field_boxes.specs.Headline.Fields.{width, stated}
use Rattle.field_boxes.specs.Headline.Bits.{bits}

-- a trit: a bit that a key must have, or none for '*'
abbrev pub Trit : Type 0
Trit = Option Bool

-- the bits of these fields' values, in the order of the fields, each with its highest bit first
abbrev pub field_bits : List ℕ → List ℕ → List Bool
field_bits [] values = []
field_bits (f ∷ fs) [] = []
field_bits (f ∷ fs) (v ∷ vs) = bits (width f) v ++ field_bits fs vs

-- the 104 bits of a header
abbrev pub header_bits : List ℕ → List Bool
header_bits values = field_bits stated values

-- whether each trit that isn't '*' equals the bit at its place
abbrev pub agrees : List Trit → List Bool → Bool
agrees [] bits = true
agrees (t ∷ ts) [] = true
agrees (t ∷ ts) (b ∷ bs) = option_map_or (λ c. beq c b) t true && agrees ts bs

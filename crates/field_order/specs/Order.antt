-- Places of orders.
use Rattle.std.specs.Prelude.{ℕ, ◌+◌, ◌*◌, ◌^◌, List, [], ◌∷◌, length}

-- the place of an order among all lists of five fields: its fields as digits to the base 5, the first one highest
abbrev pub place_of : List ℕ → ℕ
place_of [] = 0
place_of (f ∷ order) = f * 5 ^ length order + place_of order

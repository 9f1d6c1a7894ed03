-- The five fields of a header: source address, destination address, source port, destination port, protocol.
-- From the classifier model of the Razor papers (Meiners, Liu, Torng 2007 and 2010).
use Rattle.std.specs.Prelude.{ℕ, ◌<◌, ◌^◌, List, [], ◌∷◌, slice_index}

-- the bits of each field
abbrev pub widths : List ℕ
widths = 32 ∷ 32 ∷ 16 ∷ 16 ∷ 8 ∷ []

-- the bits of a field
abbrev pub width : ℕ → ℕ
width field = slice_index widths field

-- the stated order of the fields
abbrev pub stated : List ℕ
stated = 0 ∷ 1 ∷ 2 ∷ 3 ∷ 4 ∷ []

-- one value for each of these fields
abbrev pub AreValues : List ℕ → List ℕ → Type 0
AreValues [] [] = Unit {0}
AreValues [] (v ∷ vs) = ⊥
AreValues (f ∷ fs) [] = ⊥
AreValues (f ∷ fs) (v ∷ vs) = (v < 2 ^ width f) × AreValues fs vs

-- a header: one value for each of the five fields
abbrev pub IsHeader : List ℕ → Type 0
IsHeader values = AreValues stated values

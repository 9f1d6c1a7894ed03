-- Values that begin with given bits.
use Rattle.std.specs.Prelude.{Bool, true, false, List, [], ◌∷◌}

-- whether the value begins with these bits
abbrev pub begins : List Bool → List Bool → Bool
begins [] v = true
begins (b ∷ bs) [] = false
begins (true ∷ bs) (true ∷ cs) = begins bs cs
begins (false ∷ bs) (false ∷ cs) = begins bs cs
begins (true ∷ bs) (false ∷ cs) = false
begins (false ∷ bs) (true ∷ cs) = false

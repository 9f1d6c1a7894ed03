-- Two lists of edges, one part at a time.
use Rattle.std.specs.Prelude.{◌≡◌, ℕ, List, [], ◌∷◌, min, nat_eq, if◌then◌else◌}
use Rattle.node_store.specs.declared.edge.Edge.{Edge}
use Rattle.node_store.specs.declared.split.Part.{Part}

-- the part ends where the first of the two first edges ends, and leads where they lead
abbrev pub IsFirst : List Edge → List Edge → Part → Type 0
IsFirst [] ds p = ⊥
IsFirst (e ∷ es) [] p = ⊥
IsFirst (e ∷ es) (d ∷ ds) p = (p.hi ≡ min e.hi d.hi) × (p.left ≡ e.to) × (p.right ≡ d.to)

-- what is left past a value that the first edge holds
abbrev pub past : ℕ → List Edge → List Edge
past hi [] = []
past hi (e ∷ es) = if nat_eq e.hi hi then es else e ∷ es

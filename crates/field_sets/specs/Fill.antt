-- Edges that fill some values of a field.
use Rattle.std.specs.Prelude.{◌≡◌, ℕ, ◌≤◌, suc, List, [], ◌∷◌, nat_lt, if◌then◌else◌}
use Rattle.node_store.specs.declared.edge.Edge.{Edge}

-- each edge ends no lower than where the one before it ends or, of the first, the values begin; the last ends at the top
abbrev pub Fill : ℕ → ℕ → List Edge → Type 0
Fill lo top [] = lo ≡ suc top
Fill lo top (e ∷ es) = (lo ≤ e.hi) × Fill (suc e.hi) top es

-- the edges from the first one that doesn't end below the value
abbrev pub reaching : ℕ → List Edge → List Edge
reaching v [] = []
reaching v (e ∷ es) = if nat_lt e.hi v then reaching v es else e ∷ es

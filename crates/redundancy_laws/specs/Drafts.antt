-- Edges that fill a part of a field.
use Rattle.std.specs.Prelude.{◌≡◌, ℕ, suc, ◌≤◌, List, [], ◌∷◌}
use Rattle.node_store.specs.declared.edge.Edge.{Edge}

-- the edges fill the values from the low one up to the top, which is the first that they don't reach
abbrev pub Fill : ℕ → ℕ → List Edge → Type 0
Fill low top [] = low ≡ top
Fill low top (e ∷ edges) = (low ≤ e.hi) × Fill (suc e.hi) top edges

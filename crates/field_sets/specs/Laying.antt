-- Edges laid under spans with where they lead, one edge at a time.
use Rattle.std.specs.Prelude.{◌≡◌, ℕ, ◌≤◌, ◌<◌, ◌-◌, List, [], ◌∷◌, min, nat_eq, if◌then◌else◌}
use Rattle.node_store.specs.declared.edge.Edge.{Edge}
use Rattle.field_sets.specs.declared.placed.Placed.{Placed}

-- the edge from lo on beside a span: up to where the own edge ends or the span begins, or else that of the span
abbrev pub IsBeside : ℕ → Edge → Placed → Edge → Type 0
IsBeside lo own p e =
    (lo < p.span.lo → (e.hi ≡ min own.hi (p.span.lo - 1)) × (e.to ≡ own.to)) × (p.span.lo ≤ lo → (e.hi ≡ p.span.hi) × (e.to ≡ p.to))

-- the edge from lo on, of the own edges and the spans that don't end below
abbrev pub IsNext : ℕ → List Edge → List Placed → Edge → Type 0
IsNext lo [] placed e = ⊥
IsNext lo (own ∷ edges) [] e = e ≡ own
IsNext lo (own ∷ edges) (p ∷ ps) e = IsBeside lo own p e

-- what is left of the spans past a value at which the first one may end
abbrev pub left_past : ℕ → List Placed → List Placed
left_past hi [] = []
left_past hi (p ∷ ps) = if nat_eq p.span.hi hi then ps else p ∷ ps

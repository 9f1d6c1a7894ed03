-- Spans of a field with where they lead.
use Rattle.std.specs.Prelude.{◌≡◌, ℕ, ◌≤◌, suc, List, [], ◌∷◌, Option, Some, None, unwrap_or, All, if◌then◌else◌}
use Rattle.field_boxes.specs.Headline.Classifier.{interval_holds}
use Rattle.field_boxes.specs.Spans.{interval_of}
use Rattle.node_store.specs.declared.edge.Edge.{Edge}
use Rattle.node_store.specs.Edges.{child_of}
use Rattle.node_store.specs.Diagram.{Node, level_of}
use Rattle.field_sets.specs.declared.placed.Placed.{Placed}

-- where the first span that holds the value leads
abbrev pub placed_at : List Placed → ℕ → Option ℕ
placed_at [] v = None
placed_at (p ∷ ps) v = if interval_holds v (interval_of p.span) then Some p.to.0 else placed_at ps v

-- where the value leads: as placed, and elsewhere as the edges do
abbrev pub led : List Placed → List Edge → ℕ → ℕ
led placed edges v = unwrap_or (placed_at placed v) (child_of edges v)

-- the spans rise from lo on, apart, and end by the top
abbrev pub RiseFrom : ℕ → ℕ → List Placed → Type 0
RiseFrom lo top [] = Unit {0}
RiseFrom lo top (p ∷ ps) = (lo ≤ p.span.lo) × (p.span.hi ≤ top) × RiseFrom (suc p.span.hi) top ps

-- all of them lead to nodes of the level
abbrev pub PlacedAt : List Node → List ℕ → List Placed → Type 0
PlacedAt nodes level placed = All (λ p. level_of nodes p.to.0 ≡ level) placed

-- The edges of a node: intervals of its field's values in rising order, each with where it leads.
use Rattle.std.specs.Prelude.{◌≡◌, ◌≢◌, ℕ, ◌<◌, ◌-◌, List, [], ◌∷◌, length, nat_eq, nat_le, if◌then◌else◌, slice_index_or}
use Rattle.std.specs.List.{AllAdjacentBelow}
use Rattle.node_store.specs.declared.edge.Edge.{Edge}

-- where the value leads: the first edge whose hi isn't below it
abbrev pub child_of : List Edge → ℕ → ℕ
child_of [] v = 0
child_of (e ∷ edges) v = if nat_le v e.hi then e.to.0 else child_of edges v

-- the hi values rise, and the last is the greatest value
pub record AreFull (greatest : ℕ) (edges : List Edge) : Type 0 where
  pub some : 0 < length edges
  pub rise : AllAdjacentBelow (λ e d. e.hi < d.hi) edges (length edges)
  pub last : (d : Edge) → (slice_index_or edges (length edges - 1) d).hi ≡ greatest

-- neighbours lead to different nodes
abbrev pub LeadApart : List Edge → Type 0
LeadApart edges = AllAdjacentBelow (λ e d. e.to ≢ d.to) edges (length edges)

-- the edges with equal neighbours merged: one that leads where the next one leads is left out
abbrev pub merged : List Edge → List Edge
merged [] = []
merged (e ∷ []) = e ∷ []
merged (e ∷ d ∷ edges) = if nat_eq e.to.0 d.to.0 then merged (d ∷ edges) else e ∷ merged (d ∷ edges)

-- The coarsest of the splits of a field on which two nodes lead to one child each.
use Rattle.std.specs.Prelude.{◌≡◌, ℕ, ◌≤◌, List, map, All}
use Rattle.std.specs.List.{Any}
use Rattle.node_store.specs.declared.edge.Edge.{Edge}
use Rattle.node_store.specs.declared.split.Part.{Part}
use Rattle.node_store.specs.Edges.{AreFull, child_of}
use Rattle.node_store.specs.Split.{to_left, to_right}

-- the parts fill the values, and each leads where the edges of either node lead
pub record IsCommon (greatest : ℕ) (left_edges right_edges : List Edge) (parts : List Part) : Type 0 where
  pub full : AreFull greatest (map to_left parts)
  pub left : (v : ℕ) → v ≤ greatest → child_of (map to_left parts) v ≡ child_of left_edges v
  pub right : (v : ℕ) → v ≤ greatest → child_of (map to_right parts) v ≡ child_of right_edges v

-- each of the parts ends where one of the finer ones does
abbrev pub EndAmong : List Part → List Part → Type 0
EndAmong finer parts = All (λ (p : Part). Any (λ (q : Part). q.hi ≡ p.hi) finer) parts

-- every other split on which both children are constant is finer
abbrev pub IsCoarsest : ℕ → List Edge → List Edge → List Part → Type 0
IsCoarsest greatest left_edges right_edges parts =
    (finer : List Part) → IsCommon greatest left_edges right_edges finer → EndAmong finer parts

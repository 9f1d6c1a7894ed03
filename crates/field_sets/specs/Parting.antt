-- The common split of the edges of two nodes inside a span of their field.
use Rattle.std.specs.Prelude.{◌≡◌, ℕ, ◌≤◌, List, [], ◌∷◌, map, min}
use Rattle.node_store.specs.declared.edge.Edge.{Edge}
use Rattle.node_store.specs.declared.split.Part.{Part}
use Rattle.node_store.specs.Edges.{child_of}
use Rattle.node_store.specs.Split.{to_left, to_right}
use Rattle.field_sets.specs.Fill.{Fill}

-- the parts fill the values from lo to hi, and each leads where the edges of either node lead at all its values
pub record IsSplitWithin (lo hi : ℕ) (left_edges right_edges : List Edge) (parts : List Part) : Type 0 where
  pub fill : Fill lo hi (map to_left parts)
  pub left : (v : ℕ) → lo ≤ v → v ≤ hi → child_of (map to_left parts) v ≡ child_of left_edges v
  pub right : (v : ℕ) → lo ≤ v → v ≤ hi → child_of (map to_right parts) v ≡ child_of right_edges v

-- the part leads where the first edges lead, and ends where one of them ends, or by hi
abbrev pub IsFirstWithin : ℕ → List Edge → List Edge → Part → Type 0
IsFirstWithin hi [] ds p = ⊥
IsFirstWithin hi (e ∷ es) [] p = ⊥
IsFirstWithin hi (e ∷ es) (d ∷ ds) p = (p.hi ≡ min hi (min e.hi d.hi)) × (p.left ≡ e.to) × (p.right ≡ d.to)

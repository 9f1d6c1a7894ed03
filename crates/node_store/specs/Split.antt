-- The common split of the edges of two nodes.
use Rattle.std.specs.Prelude.{◌≡◌, ◌≢◌, ◌⊎◌, ℕ, ◌≤◌, List, length, map}
use Rattle.std.specs.List.{AllAdjacentBelow}
use Rattle.node_store.specs.declared.edge.Edge.{Edge}
use Rattle.node_store.specs.declared.split.Part.{Part}
use Rattle.node_store.specs.Edges.{AreFull, child_of}

-- a part as an edge to where it leads from the left node, and from the right one
abbrev pub to_left : Part → Edge
to_left p = record { hi = p.hi; to = p.left }

abbrev pub to_right : Part → Edge
to_right p = record { hi = p.hi; to = p.right }

-- the parts fill the values, each leads where the edges of either node lead, and neighbours differ
pub record IsSplit (greatest : ℕ) (left_edges right_edges : List Edge) (parts : List Part) : Type 0 where
  pub full : AreFull greatest (map to_left parts)
  pub left : (v : ℕ) → v ≤ greatest → child_of (map to_left parts) v ≡ child_of left_edges v
  pub right : (v : ℕ) → v ≤ greatest → child_of (map to_right parts) v ≡ child_of right_edges v
  pub apart : AllAdjacentBelow (λ p q. (p.left ≢ q.left) ⊎ (p.right ≢ q.right)) parts (length parts)

-- Where two nodes of one field first lead apart.
use Rattle.std.specs.Prelude.{◌≡◌, ◌≢◌, ℕ, ◌<◌, ◌≤◌, List}
use Rattle.node_store.specs.Levels.{next, top_of}
use Rattle.node_store.specs.declared.edge.Edge.{Edge}
use Rattle.node_store.specs.Edges.{child_of}
use Rattle.node_store.specs.Diagram.{Node, level_of, edges_of}
use Rattle.fdd_ops.specs.declared.parting.Parting.{Parting}

-- the least of the values up to the greatest at which two lists of edges lead to different nodes
pub record IsFirstValue (greatest : ℕ) (left right : List Edge) (v : ℕ) : Type 0 where
  pub inside : v ≤ greatest
  pub apart : child_of left v ≢ child_of right v
  pub before : (w : ℕ) → w < v → child_of left w ≡ child_of right w

-- the first value at which two nodes of one field lead apart, and the children to which it leads
pub record IsParting (nodes : List Node) (a b : ℕ) (p : Parting) : Type 0 where
  pub first : IsFirstValue (top_of (level_of nodes a)) (edges_of nodes a) (edges_of nodes b) p.value
  pub left_child : child_of (edges_of nodes a) p.value ≡ p.left.0
  pub right_child : child_of (edges_of nodes b) p.value ≡ p.right.0
  pub left_level : level_of nodes p.left.0 ≡ next (level_of nodes a)
  pub right_level : level_of nodes p.right.0 ≡ next (level_of nodes a)

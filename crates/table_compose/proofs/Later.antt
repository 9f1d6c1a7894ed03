-- Children of nodes, and marks.
use Rattle.std.proofs.Common.{◌≡◌, ℕ, List, ◌<◌, ◌≤◌, Bool, arith, refl, subst}
use Rattle.std.specs.Prelude.{slice_get, Option, Some, None}
use Rattle.node_store.specs.Levels.{HasField, next, top_of}
use Rattle.node_store.specs.Edges.{child_of}
use Rattle.node_store.specs.Diagram.{Node, node_level, node_edges, level_of, edges_of}
use Rattle.node_store.specs.Diagram.Node.{Leaf, Inner}
use Rattle.node_store.specs.Store.{IsStore, IsInner}
use Rattle.node_store.proofs.Edges.{rise_of}
use Rattle.node_store.proofs.Canonical.{chosen, leads_on}
use Rattle.table_compose.specs.Plans.{IsMarked, AreClosedFrom, IsCosted, IsChild}
use Rattle.table_compose.specs.Diagrams.{IsCostOf}

-- a child is older, and stands at the next level
pub child_older : (nodes : List Node) (id child : ℕ) → IsStore nodes → HasField (level_of nodes id) → IsChild nodes id child → (child < id) × (level_of nodes child ≡ next (level_of nodes id))
child_older nodes id child s five c = subst (λ n. (n < id) × (level_of nodes n ≡ next (level_of nodes id))) c.2 (leads_on nodes id c.0 s five c.1)

-- a child of a marked node is marked
pub child_marked : (nodes : List Node) (marks : List Bool) (id v : ℕ) → AreClosedFrom nodes 0 marks → IsMarked marks id → IsInner nodes id (level_of nodes id) (edges_of nodes id) →
    v ≤ top_of (level_of nodes id) → IsMarked marks (child_of (edges_of nodes id) v)
child_marked nodes marks id v closed marked inner le =
    chosen (λ n. IsMarked marks n) (top_of (level_of nodes id)) 0 (edges_of nodes id) v (rise_of (top_of (level_of nodes id)) (edges_of nodes id) inner.full) le (closed id (omega arith) marked)

inner_by : (nodes : List Node) (id : ℕ) (m : Option Node) → IsStore nodes → slice_get nodes id ≡ m → HasField (node_level m) → IsInner nodes id (node_level m) (node_edges m)
inner_by nodes id None s at five = absurd (omega (arith, five.0.0))
inner_by nodes id (Some (Leaf d)) s at five = absurd five
inner_by nodes id (Some (Inner f es)) s at five = s.fits id (Inner f es) at

-- a node above the leaves is an inner node
pub inner_of : (nodes : List Node) (id : ℕ) → IsStore nodes → HasField (level_of nodes id) → IsInner nodes id (level_of nodes id) (edges_of nodes id)
inner_of nodes id s five = inner_by nodes id (slice_get nodes id) s refl five

-- a root's least cost is that of rule lists over the fields of its level
pub root_cost : (nodes : List Node) (fields : List ℕ) (root n : ℕ) → level_of nodes root ≡ fields → IsCosted nodes root n → IsCostOf nodes fields root n
root_cost nodes fields root n level c = subst (λ k. IsCostOf nodes k root n) level c.least

use Rattle.std.proofs.Common.{ℕ, ◌<◌, List, length, get_or, arith, rules}
use Rattle.node_store.specs.declared.edge.Edge.{Edge}
use Rattle.node_store.specs.Diagram.{Node}
use Rattle.node_store.specs.Store.{IsInner}
use Rattle.razor_bench.proofs.tally.reach.Goals as goal

-- each edge of a node leads below what is above the node
leads_below : (nodes : List Node) (id : ℕ) (level : List ℕ) (k n : ℕ) (edges : List Edge) (d : Edge) → IsInner nodes id level edges → k < length edges → id < n → (get_or edges k d).to.0 < n
leads_below nodes id level k n edges d inner within less = let child = inner.children k d within in omega (arith, child.0, less)

pub bounds-reached-edge : goal.bounds-reached-edge
bounds-reached-edge c = leads_below _ _ _ _ _ _ _ (c.edges-edge-items.ensures.inner (search rules)) c.loop-edge-test.true (omega arith)

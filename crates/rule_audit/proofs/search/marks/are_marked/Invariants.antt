use Rattle.std.proofs.Common.{◌≡◌, ◌<◌, ℕ, false, true, get_or}
use Rattle.node_store.specs.declared.edge.Edge.{Edge}
use Rattle.rule_audit.proofs.search.marks.are_marked.Given as goal

abbrev pub invariant-loop-edge : goal.invariant-loop-edge
invariant-loop-edge l = (k : ℕ) (d : Edge) → k < l.edge-index → get_or l.marks (get_or l.edges k d).to.0 false ≡ true

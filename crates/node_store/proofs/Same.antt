-- Nodes of the code are equal exactly where they are one node of a diagram.
use Rattle.std.proofs.Common.{◌≡◌, ap, sym, ◌∙◌, true≢false}
use Rattle.std.specs.Prelude.{Bool, nat_eq, ◌&&◌}
use Rattle.std.specs.Bool.{Decides}
use Rattle.std.specs.Cmp.Lexicographic.{pointwise, pointwise_decides}
use Rattle.std.proofs.lemmas.Bool.Decides.{Decides-eqb, Decides-and, Decides-like}
use Rattle.node_store.specs.declared.edge.Edge.{Edge}
use Rattle.node_store.specs.declared.node.Node as code
use Rattle.node_store.specs.declared.node.Node.TheVariants as variant
use Rattle.node_store.specs.contracts.edge.EdgePartialEq.TheImpl as edge_impl
use Rattle.node_store.specs.contracts.node.NodePartialEq.TheImpl as node_impl
use Rattle.node_store.specs.Diagram.Node.{Leaf, Inner}
use Rattle.node_store.specs.Nodes.{node_of}
use Rattle.node_store.proofs.Edges.{edge_same}

abbrev equal_edges : Edge → Edge → Bool
equal_edges = (edge_impl.ghosts).eq

-- the `==` of the code
abbrev pub equal : code.Node → code.Node → Bool
equal = (node_impl.ghosts).eq

edges_decide : (e d : Edge) → Decides (equal_edges e d) (e ≡ d)
edges_decide e d =
    Decides-like (nat_eq e.hi d.hi && nat_eq e.to.0 d.to.0) (λ h. edge_same e d h.0 h.1) (λ h. (ap (λ (x : Edge). x.hi) h, ap (λ (x : Edge). x.to.0) h))
    (Decides-and (nat_eq e.hi d.hi) (nat_eq e.to.0 d.to.0) (Decides-eqb e.hi d.hi) (Decides-eqb e.to.0 d.to.0))

pub equal_decides : (a b : code.Node) → Decides (equal a b) (node_of a ≡ node_of b)
equal_decides (variant.Leaf a) (variant.Leaf b) = Decides-like (nat_eq a b) (λ h. ap Leaf h) (λ h. cc) (Decides-eqb a b)
equal_decides (variant.Leaf a) (variant.Inner g ds) = (λ h. absurd (true≢false (sym h)), λ h. cc)
equal_decides (variant.Inner f es) (variant.Leaf b) = (λ h. absurd (true≢false (sym h)), λ h. cc)
equal_decides (variant.Inner f es) (variant.Inner g ds) =
    Decides-like (pointwise nat_eq f g && pointwise equal_edges es.items ds.items) (λ h. ap (λ x. Inner x es.items) h.0 ∙ ap (λ x. Inner g x) h.1) (λ h. (cc, cc))
    (Decides-and (pointwise nat_eq f g) (pointwise equal_edges es.items ds.items) (pointwise_decides Decides-eqb f g) (pointwise_decides edges_decide es.items ds.items))

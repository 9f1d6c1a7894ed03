-- The fields of two nodes, and that different nodes of one field have different edges.
use Rattle.std.proofs.Common.{◌≡◌, ◌≢◌, ◌∷◌, ℕ, List, [], ◌≤◌, ◌<◌, ◌^◌, refl, ap, rules, sym, ◌∙◌, subst}
use Rattle.field_boxes.specs.Alike.{AreAlikeOver}
use Rattle.field_boxes.specs.Headline.Fields.{stated}
use Rattle.node_store.specs.Levels.{HasField, next, top_of}
use Rattle.node_store.specs.declared.edge.Edge.{Edge}
use Rattle.node_store.specs.Edges.{child_of}
use Rattle.node_store.specs.Diagram.{Node, level_of, edges_of, answer}
use Rattle.node_store.specs.Store.{IsStore, IsInner}
use Rattle.node_store.proofs.Canonical.{one, leads_on, is_level}
use Rattle.node_store.proofs.Edges.{AreEdges, edges_of as are_edges}
use Rattle.fdd_ops.specs.declared.parting.Parting.{Parting}
use Rattle.fdd_ops.specs.Parting.{IsParting}
use Rattle.fdd_ops.proofs.Fronts.{AreLeft, all_left}
use Rattle.fdd_ops.proofs.Ends.{LeadApartAt}
use Rattle.field_boxes.proofs.Orders.{field_few}

-- the five fields are a level
pub all_fields : HasField stated
all_fields = search rules

-- no field has a value above 32 bits
pub few : (level : List ℕ) → HasField level → top_of level < 2 ^ 32
few [] h = absurd h
few (f ∷ level) h = field_few f h.0.0

alike : (nodes : List Node) (level : List ℕ) (a b : ℕ) → HasField level → edges_of nodes a ≡ edges_of nodes b → AreAlikeOver level (answer nodes a) (answer nodes b)
alike nodes [] a b field e values ok = absurd field
alike nodes (f ∷ level) a b field e [] ok = absurd ok
alike nodes (f ∷ level) a b field e (v ∷ values) ok = ap (λ es. answer nodes (child_of es v) values) e

-- different nodes of one field have different edges
edges_differ : (nodes : List Node) (a b : ℕ) → IsStore nodes → HasField (level_of nodes a) → level_of nodes b ≡ level_of nodes a → a ≢ b → edges_of nodes a ≢ edges_of nodes b
edges_differ nodes a b s field level differ e =
    differ (one nodes (level_of nodes a) a b s (is_level (level_of nodes a) field) refl level (alike nodes (level_of nodes a) a b field e))

-- at first all edges of the two nodes are left
pub begun : (nodes : List Node) (a b : ℕ) (xs ys : List Edge) → IsStore nodes → HasField (level_of nodes a) → level_of nodes b ≡ level_of nodes a → a ≢ b →
    xs ≡ edges_of nodes a → ys ≡ edges_of nodes b → IsInner nodes a (level_of nodes a) xs → IsInner nodes b (level_of nodes b) ys →
    AreLeft (top_of (level_of nodes a)) (edges_of nodes a) (edges_of nodes b) 0 xs ys
begun nodes a b xs ys s field level differ p q left right =
    let g = top_of (level_of nodes a) in
    let l = subst (λ es. AreEdges g 0 es) p (are_edges g xs left.full left.apart) in
    let r = subst (λ es. AreEdges g 0 es) q (subst (λ f. AreEdges (top_of f) 0 ys) level (are_edges (top_of (level_of nodes b)) ys right.full right.apart)) in
    let all = all_left g (edges_of nodes a) (edges_of nodes b) l r (edges_differ nodes a b s field level differ) in
    subst (λ es. AreLeft g (edges_of nodes a) (edges_of nodes b) 0 es ys) (sym p)
    (subst (λ es. AreLeft g (edges_of nodes a) (edges_of nodes b) 0 (edges_of nodes a) es) (sym q) all)

-- the children at the first value stand at the next level
pub parting : (nodes : List Node) (a b : ℕ) (p : Parting) → IsStore nodes → HasField (level_of nodes a) → level_of nodes b ≡ level_of nodes a →
    LeadApartAt (top_of (level_of nodes a)) (edges_of nodes a) (edges_of nodes b) p.value p.left.0 p.right.0 → IsParting nodes a b p
parting nodes a b p s field level h = record {
  first = h.value;
  left_child = h.left_child;
  right_child = h.right_child;
  left_level = ap (level_of nodes) (sym h.left_child) ∙ (leads_on nodes a p.value s field h.value.inside).1;
  right_level =
      ap (level_of nodes) (sym h.right_child)
      ∙ (leads_on nodes b p.value s (subst HasField (sym level) field) (subst (λ f. p.value ≤ top_of f) (sym level) h.value.inside)).1
      ∙ ap next level;
}
